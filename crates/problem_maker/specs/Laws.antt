-- What holds of the kept tries and of the order of problems.
use Rattle.std.specs.Prelude.{Bool, List, IsTrue, ◌↔◌}
use Rattle.grid_moves.specs.declared.Cell.{Cell}
use Rattle.grid_moves.specs.Layers.{Layers}
use Rattle.joined_cells.specs.Both.{HasWalk}
use Rattle.plain_search.specs.One.{IsTheOne}
use Rattle.problem_maker.specs.declared.sorting.Problem.{Problem}
use Rattle.problem_maker.specs.Ordered.{AreOrdered}

-- the test says exactly whether a query from one cell to the other has a walk
abbrev pub LeadsIs : (Layers → Cell → Cell → Bool) → Type 0
LeadsIs test = (ls : Layers) (s t : Cell) → IsTrue (test ls s t) ↔ HasWalk ls s t

-- this is problems in the order of their costs, and nothing else is
abbrev pub OrderIs : (List Problem → List Problem) → Type 0
OrderIs order = (before : List Problem) → IsTheOne (AreOrdered before) (order before)
