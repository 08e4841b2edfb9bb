-- The two cells at right angles to a run, and the two half ahead of it.
use Rattle.std.specs.Prelude.{Bool, not, ◌&&◌, ◌||◌}
use Rattle.grid_moves.specs.declared.Cell.{Cell}
use Rattle.grid_moves.specs.declared.Dir.{Dir}
use Rattle.grid_moves.specs.Grid.{GridData}
use Rattle.grid_moves.specs.Move.{is_open}
use Rattle.pruning.specs.declared.turns.Side.TheVariants.{Right, Left}
use Rattle.pruning.specs.Turns.{turn, quarter}
use Rattle.jump_plain.specs.declared.beside.Sides.{Sides}

-- which of the two cells at right angles to d are free
abbrev pub sides_of : GridData → Cell → Dir → Sides
sides_of g c d = record { right = is_open g c (quarter Right d); left = is_open g c (quarter Left d) }

-- which of the two cells half ahead are free: for a straight d the sides of the next cell, be it free or
-- blocked; for a diagonal one the cells beside the move
abbrev pub sides_ahead : GridData → Cell → Dir → Sides
sides_ahead g c d = record { right = is_open g c (turn Right d); left = is_open g c (turn Left d) }

-- from one cell to the next a side opens: it is blocked at the one, and free at the next
abbrev pub opens : Sides → Sides → Bool
opens u v = (not u.right && v.right) || (not u.left && v.left)
