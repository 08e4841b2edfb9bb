-- How far a scan along a straight run reaches, and the first stop that follows from it.
use Rattle.std.specs.Prelude.{◌≡◌, ℕ, ◌+◌, ◌-◌, true, false, ◌&&◌, nat_lt, nat_le, nat_eq, Option, Some, None}
use Rattle.std.specs.Prelude.{if◌then◌else◌, refl, codes}
use Rattle.grid_moves.specs.declared.Cell.{Cell}
use Rattle.grid_moves.specs.declared.Corner.{Corner}
use Rattle.grid_moves.specs.declared.Corner.TheVariants.{Never, One, Both}
use Rattle.grid_moves.specs.declared.Dir.{Dir}
use Rattle.grid_moves.specs.declared.Dir.TheVariants.{N, NE, E, SE, S, SW, W, NW}
use Rattle.grid_moves.specs.Grid.{GridData, grid_of}
use Rattle.grid_moves.specs.Examples.{notch}
use Rattle.grid_moves.specs.Move.{may_cut}
use Rattle.pruning.specs.declared.turns.Side.{Side}
use Rattle.pruning.specs.declared.turns.Side.TheVariants.{Right, Left}
use Rattle.pruning.specs.Marked.{is_forced}
use Rattle.pruning.specs.First.{first_on_run, run_length}
use Rattle.jump_plain.specs.declared.beside.Sides.{Sides}
use Rattle.jump_plain.specs.declared.scan.Reach.{Reach}
use Rattle.jump_plain.specs.Beside.{sides_of}

-- to the first mark, if there is one, else to the end of a run of so many moves
abbrev pub reach_to : Option ℕ → ℕ → Reach
reach_to (Some k) n = record { moves = k; marked = true }
reach_to None n = record { moves = n; marked = false }

-- from x in a straight d: to the first cell with a forced neighbour, or else to the end of the legal run
abbrev pub reach_of : GridData → Cell → Dir → Reach
reach_of g x d = reach_to (first_on_run g d (λ v. is_forced g v d) x) (run_length g x d)

-- the same where x itself may have a forced neighbour
abbrev pub reach_at : GridData → Cell → Dir → Reach
reach_at g x d = if is_forced g x d then record { moves = 0; marked = true } else reach_of g x d

-- a reach from k moves further back
abbrev pub further : ℕ → Reach → Reach
further k r = record { moves = k + r.moves; marked = r.marked }

-- what a scan that stands at x has still to find: where a corner may be cut, a mark is seen one move late, so
-- x itself may have one
abbrev pub left_at : Corner → GridData → Cell → Dir → Reach
left_at rule g x d = if may_cut rule then reach_at g x d else reach_of g x d

-- the mark that the move from u to the next cell shows stands at the next cell where no corner is cut, and
-- else at u
abbrev pub mark_ahead : Corner → ℕ
mark_ahead rule = if may_cut rule then 0 else 1

-- the sides with which a scan begins: where a corner may be cut, as if both were free, so that the first move
-- shows no mark
abbrev pub first_sides : Corner → GridData → Cell → Dir → Sides
first_sides rule g x d = if may_cut rule then record { right = true; left = true } else sides_of g x d

-- which sides are free, by bits, and which are not
abbrev pub free_bits : Sides → ℕ
free_bits s = if s.right then (if s.left then 3 else 1) else if s.left then 2 else 0

abbrev pub shut_bits : Sides → ℕ
shut_bits s = 255 - free_bits s

-- the sides at the end of a diagonal move, in its component to that side, given which cells beside the next
-- move are free, where the cell passed by the move is free
abbrev pub sides_passed : Sides → Side → Sides
sides_passed c Right = record { right = true; left = c.left }
sides_passed c Left = record { right = c.right; left = true }

-- the sides with which a scan begins there: the cell passed by the move is free where no corner is cut
abbrev pub sides_after : Corner → Sides → Side → Sides
sides_after rule c s = if may_cut rule then record { right = true; left = true } else sides_passed c s

-- the number of moves in a straight d that lead from u to v, or 0 where none do
abbrev pub moves_to : Dir → Cell → Cell → ℕ
moves_to N u v = if nat_eq u.x v.x then u.y - v.y else 0
moves_to NE u v = 0
moves_to E u v = if nat_eq u.y v.y then v.x - u.x else 0
moves_to SE u v = 0
moves_to S u v = if nat_eq u.x v.x then v.y - u.y else 0
moves_to SW u v = 0
moves_to W u v = if nat_eq u.y v.y then u.x - v.x else 0
moves_to NW u v = 0

-- the first stop: the goal, so many moves on, where the run reaches it, else the mark
abbrev pub stop_of : Reach → ℕ → Option ℕ
stop_of r goal =
    if nat_lt 0 goal && nat_le goal r.moves then Some goal
    else if r.marked then Some r.moves
    else None

-- on `...../.@...`, to the mark, and to the end of the run
pub to_the_mark : reach_of (notch Never) (record { x = 0; y = 0 }) E ≡ record { moves = 2; marked = true }
to_the_mark = refl

pub to_the_end : reach_of (notch Never) (record { x = 2; y = 0 }) E ≡ record { moves = 2; marked = false }
to_the_end = refl

pub to_an_earlier_mark : reach_of (notch One) (record { x = 0; y = 0 }) E
    ≡ record { moves = 1; marked = true }
to_an_earlier_mark = refl

-- on `..@/.@.`, where two blocked cells may be passed between, to the mark at the end of the run
pub to_a_mark_at_the_end : reach_of (grid_of 3 2 (codes "..@.@.") Both) (record { x = 0; y = 0 }) E
    ≡ record { moves = 1; marked = true }
to_a_mark_at_the_end = refl

pub to_no_mark_at_the_end : reach_of (grid_of 3 2 (codes "..@.@.") One) (record { x = 0; y = 0 }) E
    ≡ record { moves = 1; marked = false }
to_no_mark_at_the_end = refl
