use Rattle.std.proofs.Common.{◌≡◌}
use Rattle.joined_cells.specs.Joined.{label_of}
use Rattle.nearest_cell.specs.Rings.{IsFirstWithin}
use Rattle.nearest_cell.proofs.rings.nearest.Given as goal

abbrev pub invariant-loop-ring : goal.invariant-loop-ring
invariant-loop-ring l = record {
  label : label_of l.p.labels l.best ≡ l.label;
  first : IsFirstWithin l.p.labels l.label l.goal l.ring l.best;
}
