-- What the search of a block finds.
use Rattle.std.specs.Prelude.{ℕ}
use Rattle.grid_moves.specs.declared.Corner.{Corner}
use Rattle.jump_block.specs.declared.word.Way.{Way}
use Rattle.bit_grid.specs.declared.lines.ThreeWords.{ThreeWords}
use Rattle.jump_block.specs.declared.block.Seek.{Seek}
use Rattle.jump_block.specs.declared.block.Seek.TheVariants.{Halted, Passed}
use Rattle.jump_block.specs.Trail.{Trail, Halts, IsClear}
use Rattle.jump_block.specs.Word.{AreEdgesOf, moves_before}

-- the scan comes to the edge, and these are the last words before it
pub record HasPassed (t : Trail) (way : Way) (from edge : ℕ) (w : ThreeWords) : Type 0 where
  pub edges : AreEdgesOf t way from edge w
  pub clear : IsClear t (moves_before way from edge)

-- it halts before the edge, or comes to it
abbrev pub IsSought : Corner → Trail → Way → ℕ → ℕ → Seek → Type 0
IsSought rule t way from edge (Halted h) = Halts rule t h.passed h.marked
IsSought rule t way from edge (Passed w) = HasPassed t way from edge w
