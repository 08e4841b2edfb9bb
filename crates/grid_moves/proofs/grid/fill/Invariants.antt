use Rattle.std.proofs.Common.{◌≡◌, length}
use Rattle.grid_moves.specs.declared.Corner.TheVariants.{Never}
use Rattle.grid_moves.specs.Grid.{is_free, layer_of}
use Rattle.grid_moves.specs.Padded.{places}
use Rattle.grid_moves.proofs.Padding.{AreFilled}
use Rattle.grid_moves.proofs.grid.fill.Given as goal

-- the rows so far are filled
abbrev pub invariant-loop-y : goal.invariant-loop-y
invariant-loop-y l = record {
  long : length l.cells ≡ places l.width l.height;
  filled : AreFilled l.width (is_free (layer_of l.kind Never l.width l.height l.bytes)) l.y l.cells;
}
