use Rattle.goal_boxes.specs.Made.{box_of}
use Rattle.goal_boxes.proofs.boxed.boxed_query.Given as goal

-- the boxes that are meant are those of the grid
abbrev pub ghosts-run_alone-K-Meant : goal.ghosts-run_alone-K-Meant
ghosts-run_alone-K-Meant g a = record { boxes = box_of (g.T.Terrain.grid a.t.now) }

abbrev pub ghosts-run_alone-L-Ledger : goal.ghosts-run_alone-L-Ledger
ghosts-run_alone-L-Ledger g a = record { name = a.blank.name; parts = a.blank.parts }
