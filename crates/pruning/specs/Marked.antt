-- Forced neighbours, and the cells that are marked for having or seeing one.
-- Harabor and Grastien: AAAI 2011 where corners may be cut, SoCS 2012 where none is.
use Rattle.std.specs.Prelude.{◌≡◌, ℕ, zero, suc, ◌≤◌, Bool, true, false, ◌&&◌, ◌||◌, refl, Option, Some}
use Rattle.std.specs.Prelude.{option_and_then, if◌then◌else◌, codes}
use Rattle.grid_moves.specs.declared.Cell.{Cell}
use Rattle.grid_moves.specs.declared.Corner.{Corner}
use Rattle.grid_moves.specs.declared.Corner.TheVariants.{Never, One, Both}
use Rattle.grid_moves.specs.declared.Dir.{Dir}
use Rattle.grid_moves.specs.declared.Dir.TheVariants.{E, SE}
use Rattle.grid_moves.specs.Grid.{GridData, grid_of}
use Rattle.grid_moves.specs.Move.{legal_ahead, may_cut}
use Rattle.grid_moves.specs.Examples.{pillar, notch}
use Rattle.pruning.specs.declared.turns.Side.{Side}
use Rattle.pruning.specs.declared.turns.Side.TheVariants.{Right, Left}
use Rattle.pruning.specs.Turns.{turn, quarter, rear, is_diagonal}
use Rattle.pruning.specs.Allowed.{is_blocked, can_move}

-- After a move in d a neighbour on this side is forced, given which cells around are blocked and which moves
-- are legal. Where no corner is cut: after a straight move, the cell at that side, past a blocked one behind.
-- Where one may be: after a straight move, the cell half ahead, past a blocked one at that side; after a
-- diagonal, the cell at that side, past a blocked one behind.
abbrev pub is_forced_on : Corner → (Dir → Bool) → (Dir → Bool) → Dir → Side → Bool
is_forced_on corner blocked can d s =
    if may_cut corner
    then
    (if is_diagonal d then blocked (rear s d) && can (quarter s d)
    else blocked (quarter s d) && can (turn s d))
    else if is_diagonal d then false
    else blocked (rear s d) && can (quarter s d)

-- after a move in d some neighbour is forced
abbrev pub is_forced : GridData → Cell → Dir → Bool
is_forced g x d =
    is_forced_on g.corner (is_blocked g x) (can_move g x) d Right
    || is_forced_on g.corner (is_blocked g x) (can_move g x) d Left

-- the cell after k legal moves in d, if there are so many
abbrev pub run_end : GridData → Dir → ℕ → Cell → Option Cell
run_end g d zero x = Some x
run_end g d (suc k) x = option_and_then (λ v. run_end g d k v) (legal_ahead g x d)

-- the property holds of a cell of the legal run from x in d, at distance 1 or more
pub record HoldsOnRun (g : GridData) (d : Dir) (x : Cell) (P : Cell → Type 0) : Type 0 where
  pub moves : ℕ
  pub some : 1 ≤ moves
  pub cell : Cell
  pub reached : run_end g d moves x ≡ Some cell
  pub holds : P cell

-- x is marked for d: a neighbour is forced there, or d is diagonal and the legal run in a component has a
-- cell that is marked for that component
pub data IsMarked (g : GridData) (x : Cell) (d : Dir) : Type 0 where
  forces : is_forced g x d ≡ true → IsMarked g x d
  looks_out : is_diagonal d ≡ true → (s : Side)
      → HoldsOnRun g (turn s d) x (λ v. is_forced g v (turn s d) ≡ true) → IsMarked g x d

-- where no corner is cut, above the wall nothing is forced, and a column on the way down is
pub above_the_wall : is_forced (notch Never) (record { x = 1; y = 0 }) E ≡ false
above_the_wall = refl

pub behind_the_wall : is_forced (notch Never) (record { x = 2; y = 0 }) E ≡ true
behind_the_wall = refl

-- where one may be cut, above the wall the way past it is forced, and a column on nothing is
pub past_the_wall : is_forced (notch One) (record { x = 1; y = 0 }) E ≡ true
past_the_wall = refl

pub beyond_the_wall : is_forced (notch One) (record { x = 2; y = 0 }) E ≡ false
beyond_the_wall = refl

-- after a diagonal a neighbour is forced only where a corner may be cut
pub round_a_corner : is_forced (pillar One) (record { x = 2; y = 1 }) SE ≡ true
round_a_corner = refl

pub round_no_corner : is_forced (pillar Never) (record { x = 2; y = 1 }) SE ≡ false
round_no_corner = refl

-- at the end of a run, with a blocked cell ahead, the way past it is forced only where two blocked cells may
-- be passed between
pub at_the_end : is_forced (grid_of 3 2 (codes "..@.@.") Both) (record { x = 1; y = 0 }) E ≡ true
at_the_end = refl

pub at_no_end : is_forced (grid_of 3 2 (codes "..@.@.") One) (record { x = 1; y = 0 }) E ≡ false
at_no_end = refl
