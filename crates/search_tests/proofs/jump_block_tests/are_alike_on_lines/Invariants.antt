use Rattle.bit_grid.specs.Bits.{AreBitsOf}
use Rattle.search_tests.proofs.jump_block_tests.are_alike_on_lines.Given as goal

-- the bits are the grid's
abbrev pub invariant-loop-place : goal.invariant-loop-place
invariant-loop-place l = AreBitsOf l.bits l.grid

abbrev pub invariant-loop-line : goal.invariant-loop-line
invariant-loop-line l = AreBitsOf l.bits l.grid

abbrev pub invariant-loop-walls : goal.invariant-loop-walls
invariant-loop-walls l = AreBitsOf l.bits l.grid
