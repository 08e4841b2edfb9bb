-- Where programs stop: at first stops (jump points) alone, at further cells, after each move, after so many,
-- and as published JPS+ does (Harabor and Grastien, ICAPS 2014; Rabin and Silva, Game AI Pro 2, 2015).
use Rattle.std.specs.Prelude.{ℕ, Bool, false, ◌&&◌, ◌||◌, nat_eq, nat_le, Option, Some, None}
use Rattle.grid_moves.specs.declared.Cell.{Cell}
use Rattle.grid_moves.specs.declared.Dir.{Dir}
use Rattle.grid_moves.specs.Grid.{GridData}
use Rattle.grid_moves.specs.Move.{is_diagonal, is_same, cell_after}
use Rattle.grid_moves.specs.Points.{steps_between}
use Rattle.pruning.specs.declared.turns.Side.TheVariants.{Right, Left}
use Rattle.pruning.specs.Turns.{turn}
use Rattle.pruning.specs.Explored.{Stops}
use Rattle.pruning.specs.First.{first_stop, first_on_run, is_marked}

-- the number is this one
abbrev pub is_the : ℕ → Option ℕ → Bool
is_the k None = false
is_the k (Some n) = nat_eq k n

-- at the first stop of a run
abbrev pub at_first : GridData → Cell → Stops
at_first g goal u d k = is_the k (first_stop g goal u.state.cell d)

-- there, and besides wherever else is chosen
abbrev pub besides : Stops → GridData → Cell → Stops
besides extra g goal u d k = at_first g goal u d k || extra u d k

-- after so many moves, or at a first stop before: a bounded jump; after each move with 1
abbrev pub bounded : ℕ → GridData → Cell → Stops
bounded most g goal u d k = nat_eq k most || (nat_le k most && at_first g goal u d k)

-- the goal lies in d from v, whatever stands between
abbrev pub lies_in : Cell → Dir → Cell → Bool
lies_in goal d v = is_same (cell_after d (steps_between v goal) v) goal

-- published JPS+ stops at the goal, at a mark, and on a diagonal where the goal's row or column is met,
-- whether or not the run from there to the goal is free
abbrev pub is_plus_stop : GridData → Cell → Dir → Cell → Bool
is_plus_stop g goal d v =
    is_same v goal || is_marked g v d
    || (is_diagonal d && (lies_in goal (turn Right d) v || lies_in goal (turn Left d) v))

-- at the first of these of a run
abbrev pub at_first_plus : GridData → Cell → Stops
at_first_plus g goal u d k = is_the k (first_on_run g d (is_plus_stop g goal d) u.state.cell)
