-- What is answered where a least walk is asked for.
use Rattle.std.specs.Prelude.{Option, MatchOption}
use Rattle.grid_moves.specs.declared.Cell.{Cell}
use Rattle.grid_moves.specs.Grid.{GridData}
use Rattle.grid_moves.specs.Reply.{StandsForLeast}
use Rattle.grid_moves.specs.Walk.{NoWalk}
use Rattle.path_points.specs.declared.points.Walk.{Walk}

-- the points stand for a least walk from s to t of this cost, or nothing is found and no walk exists
abbrev pub IsLeastOrNone : GridData → Cell → Cell → Option Walk → Type 0
IsLeastOrNone g s t found = MatchOption found (NoWalk g s t) (λ w. StandsForLeast g s t w.points w.cost)
