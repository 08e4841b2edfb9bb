-- Marks, stops and first stops as functions that compute.
use Rattle.std.specs.Prelude.{◌≡◌, ℕ, zero, suc, ◌+◌, Bool, ◌&&◌, ◌||◌, refl, Option, Some, None}
use Rattle.std.specs.Prelude.{option_and_then, option_map, unwrap_or, is_some, if◌then◌else◌, codes}
use Rattle.grid_moves.specs.declared.Cell.{Cell}
use Rattle.grid_moves.specs.declared.Corner.TheVariants.{Never, One}
use Rattle.grid_moves.specs.declared.Dir.{Dir}
use Rattle.grid_moves.specs.declared.Dir.TheVariants.{E, SE, S, W}
use Rattle.grid_moves.specs.Grid.{GridData, grid_of}
use Rattle.grid_moves.specs.Move.{legal_ahead, is_same}
use Rattle.grid_moves.specs.Examples.{pillar, notch}
use Rattle.pruning.specs.declared.turns.Side.TheVariants.{Right, Left}
use Rattle.pruning.specs.Turns.{turn, is_diagonal}
use Rattle.pruning.specs.Marked.{is_forced}

-- the number of moves, from 1, to the first of the next n cells of the legal run at which the test holds
abbrev pub first_within : ℕ → GridData → Dir → (Cell → Bool) → Cell → Option ℕ
first_within zero g d test x = None
first_within (suc n) g d test x = option_and_then
    (λ v. if test v then Some 1 else option_map (λ k. suc k) (first_within n g d test v)) (legal_ahead g x d)

-- the number of moves, from 1, to the first cell of the legal run from x in d at which the test holds; no run
-- is longer than the sides together
abbrev pub first_on_run : GridData → Dir → (Cell → Bool) → Cell → Option ℕ
first_on_run g d test x = first_within (g.width + g.height) g d test x

-- the test holds at a cell of the legal run from x in d, at distance 1 or more
abbrev pub holds_on_run : GridData → Dir → (Cell → Bool) → Cell → Bool
holds_on_run g d test x = is_some (first_on_run g d test x)

-- the cell is marked for d
abbrev pub is_marked : GridData → Cell → Dir → Bool
is_marked g x d =
    is_forced g x d
    || (is_diagonal d
    && (holds_on_run g (turn Right d) (λ v. is_forced g v (turn Right d)) x
    || holds_on_run g (turn Left d) (λ v. is_forced g v (turn Left d)) x))

-- a jump in d stops at this cell
abbrev pub is_stop : GridData → Cell → Dir → Cell → Bool
is_stop g goal d v =
    is_same v goal || is_marked g v d
    || (is_diagonal d
    && (holds_on_run g (turn Right d) (λ u. is_same u goal) v
    || holds_on_run g (turn Left d) (λ u. is_same u goal) v))

-- the number of moves from x in d to the first stop, or none where there is no stop
abbrev pub first_stop : GridData → Cell → Cell → Dir → Option ℕ
first_stop g goal x d = first_on_run g d (is_stop g goal d) x

-- the number of moves from x in d to the first cell that is marked for d, or none
abbrev pub first_mark : GridData → Cell → Dir → Option ℕ
first_mark g x d = first_on_run g d (λ v. is_marked g v d) x

-- the number of moves of the legal run from x in d, counted up to n
abbrev pub moves_within : ℕ → GridData → Dir → Cell → ℕ
moves_within zero g d x = 0
moves_within (suc n) g d x =
    unwrap_or (option_map (λ v. suc (moves_within n g d v)) (legal_ahead g x d)) 0

-- the number of moves of the legal run from x in d
abbrev pub run_length : GridData → Cell → Dir → ℕ
run_length g x d = moves_within (g.width + g.height) g d x

abbrev cell : ℕ → ℕ → Cell
cell x y = record { x = x; y = y }

-- round a pillar, to the lower right: two moves to a stop where no corner is cut, else one, and one more
pub along_the_pillar : first_stop (pillar Never) (cell 2 2) (cell 0 0) E ≡ Some 2
along_the_pillar = refl

pub down_to_the_goal : first_stop (pillar Never) (cell 2 2) (cell 2 0) S ≡ Some 2
down_to_the_goal = refl

pub to_its_corner : first_stop (pillar One) (cell 2 2) (cell 0 0) E ≡ Some 1
to_its_corner = refl

pub over_its_corner : first_stop (pillar One) (cell 2 2) (cell 1 0) SE ≡ Some 1
over_its_corner = refl

-- on `...../.@...`, to the first mark
pub mark_after_two : first_mark (notch Never) (cell 0 0) E ≡ Some 2
mark_after_two = refl

pub mark_after_four : first_mark (notch Never) (cell 4 0) W ≡ Some 4
mark_after_four = refl

pub mark_after_one : first_mark (notch One) (cell 0 0) E ≡ Some 1
mark_after_one = refl

pub no_mark_after_it : first_mark (notch One) (cell 1 0) E ≡ None
no_mark_after_it = refl

pub three_moves_after_it : run_length (notch One) (cell 1 0) E ≡ 3
three_moves_after_it = refl

pub no_way_down : first_mark (notch One) (cell 0 0) SE ≡ None
no_way_down = refl

-- on `......./....@..` the goal stands before the mark
abbrev wall_below : GridData
wall_below = grid_of 7 2 (codes "...........@..") Never

pub goal_before_the_mark : first_stop wall_below (cell 3 0) (cell 0 0) E ≡ Some 3
goal_before_the_mark = refl

pub mark_beyond_the_goal : first_mark wall_below (cell 0 0) E ≡ Some 5
mark_beyond_the_goal = refl

-- on `..../..@.` the goal's row is met at (1,1), but the run to the right of it is closed
pub goal_behind_a_wall : first_stop (grid_of 4 2 (codes "......@.") Never) (cell 3 1) (cell 0 0) SE ≡ None
goal_behind_a_wall = refl

-- on `..@./..../..../....` the marked cell (1,1) stops before the goal (3,3) on the same diagonal
abbrev gap_above : GridData
gap_above = grid_of 4 4 (codes "..@.............") Never

pub mark_before_the_goal : first_stop gap_above (cell 3 3) (cell 0 0) SE ≡ Some 1
mark_before_the_goal = refl

pub goal_after_the_mark : first_stop gap_above (cell 3 3) (cell 1 1) SE ≡ Some 2
goal_after_the_mark = refl
