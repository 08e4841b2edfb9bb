use Rattle.goal_boxes.specs.Stored.{box_at}
use Rattle.goal_boxes.proofs.boxed.boxed_search.Given as goal

-- the boxes that are meant are those that are kept
abbrev pub ghosts-run_kept-K-Meant : goal.ghosts-run_kept-K-Meant
ghosts-run_kept-K-Meant g a = record { boxes = box_at a.b.now }

abbrev pub ghosts-run_kept-M-Ledger : goal.ghosts-run_kept-M-Ledger
ghosts-run_kept-M-Ledger g a = record { name = a.blank.name; parts = a.blank.parts }
