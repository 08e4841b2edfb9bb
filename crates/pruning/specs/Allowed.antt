-- Pruning: the directions in which a search goes on from a cell, by how it came there.
-- Harabor and Grastien: AAAI 2011 where corners may be cut, SoCS 2012 where none is. What pruning keeps hangs
-- on that alone, and on no other part of the corner rule.
use Rattle.std.specs.Prelude.{◌≡◌, Bool, true, not, ◌&&◌, ◌||◌, refl, List, [], ◌∷◌, filter, is_some}
use Rattle.std.specs.Prelude.{if◌then◌else◌, Option, Some, None}
use Rattle.grid_moves.specs.declared.Cell.{Cell}
use Rattle.grid_moves.specs.declared.Corner.{Corner}
use Rattle.grid_moves.specs.declared.Corner.TheVariants.{Never, One, Both}
use Rattle.grid_moves.specs.declared.Dir.{Dir}
use Rattle.grid_moves.specs.declared.Dir.TheVariants.{E, SE, S, SW}
use Rattle.grid_moves.specs.Grid.{GridData}
use Rattle.grid_moves.specs.Move.{is_dir, is_open, legal_ahead, all_dirs, may_cut}
use Rattle.grid_moves.specs.Examples.{pillar, touch}
use Rattle.pruning.specs.declared.Arrival.{Arrival}
use Rattle.pruning.specs.declared.Arrival.TheVariants.{Start, By}
use Rattle.pruning.specs.declared.turns.Side.{Side}
use Rattle.pruning.specs.declared.turns.Side.TheVariants.{Right, Left}
use Rattle.pruning.specs.Turns.{turn, quarter, rear, is_diagonal}

-- how a search came to a cell, by the direction of its move, or none at the start
abbrev pub come_to : Option Dir → Arrival
come_to None = Start
come_to (Some d) = By d

-- the cell ahead is blocked; what lies outside the map is
abbrev pub is_blocked : GridData → Cell → Dir → Bool
is_blocked g x d = not (is_open g x d)

-- the move in d from x is legal
abbrev pub can_move : GridData → Cell → Dir → Bool
can_move g x d = is_some (legal_ahead g x d)

-- After a move in d pruning keeps d itself, and a turn to a side where a wall stands there, since else some
-- walk that turns earlier is as short. Which cells around are blocked is given by the direction to them.

-- a turn by an eighth to that side: after a diagonal it is a component, and kept; after a straight move it is
-- kept where the cell behind on that side is blocked, or, where a corner may be cut, the cell at that side
abbrev pub keeps_eighth : Corner → (Dir → Bool) → Dir → Side → Bool
keeps_eighth corner blocked d s =
    is_diagonal d || (if may_cut corner then blocked (quarter s d) else blocked (rear s d))

-- a turn by a quarter to that side: where no corner is cut it is kept after a straight move, where one may be
-- it is kept after a diagonal, and both where the cell behind on that side is blocked
abbrev pub keeps_quarter : Corner → (Dir → Bool) → Dir → Side → Bool
keeps_quarter corner blocked d s =
    (if may_cut corner then is_diagonal d else not (is_diagonal d)) && blocked (rear s d)

-- e is a turn to that side that is kept
abbrev pub is_kept_aside : Corner → (Dir → Bool) → Dir → Dir → Side → Bool
is_kept_aside corner blocked d e s =
    (is_dir e (turn s d) && keeps_eighth corner blocked d s)
    || (is_dir e (quarter s d) && keeps_quarter corner blocked d s)

-- the directions that pruning keeps: all at the start
abbrev pub is_kept : Corner → (Dir → Bool) → Arrival → Dir → Bool
is_kept corner blocked Start e = true
is_kept corner blocked (By d) e =
    is_dir e d || is_kept_aside corner blocked d e Right || is_kept_aside corner blocked d e Left

-- an allowed direction is one that pruning keeps and in which the move is legal
abbrev pub is_allowed : GridData → Cell → Arrival → Dir → Bool
is_allowed g x by e = is_kept g.corner (is_blocked g x) by e && can_move g x e

-- the allowed directions in increasing order
abbrev pub allowed_dirs : GridData → Cell → Arrival → List Dir
allowed_dirs g x by = filter (is_allowed g x by) all_dirs

-- in a corner of the map two moves are legal at the start, under each rule
pub from_the_corner : allowed_dirs (pillar Never) (record { x = 0; y = 0 }) Start ≡ E ∷ S ∷ []
from_the_corner = refl

pub from_the_corner_too : allowed_dirs (pillar One) (record { x = 0; y = 0 }) Start ≡ E ∷ S ∷ []
from_the_corner_too = refl

pub from_the_corner_as_well : allowed_dirs (pillar Both) (record { x = 0; y = 0 }) Start ≡ E ∷ S ∷ []
from_the_corner_as_well = refl

-- above the pillar nothing is turned to where no corner is cut, and else the way past it
pub above_the_pillar : allowed_dirs (pillar Never) (record { x = 1; y = 0 }) (By E) ≡ E ∷ []
above_the_pillar = refl

pub cutting_its_corner : allowed_dirs (pillar One) (record { x = 1; y = 0 }) (By E) ≡ E ∷ SE ∷ []
cutting_its_corner = refl

-- a column further the way leads down where no corner is cut, and else nowhere
pub past_the_pillar : allowed_dirs (pillar Never) (record { x = 2; y = 0 }) (By E) ≡ S ∷ []
past_the_pillar = refl

pub nothing_past_it : allowed_dirs (pillar One) (record { x = 2; y = 0 }) (By E) ≡ []
nothing_past_it = refl

-- after a diagonal move past the pillar: the component, and a quarter round its other corner
pub round_the_pillar : allowed_dirs (pillar One) (record { x = 2; y = 1 }) (By SE) ≡ S ∷ SW ∷ []
round_the_pillar = refl

-- between two blocked cells the way leads on where both may be passed
pub between_two : allowed_dirs (touch Both) (record { x = 0; y = 0 }) Start ≡ SE ∷ []
between_two = refl

pub not_between_two : allowed_dirs (touch One) (record { x = 0; y = 0 }) Start ≡ []
not_between_two = refl
