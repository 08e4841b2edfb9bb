use Rattle.std.proofs.Common.{◌≡◌}
use Rattle.joined_cells.specs.Joined.{label_of}
use Rattle.nearest_cell.specs.Rings.{IsFirstOnRing, IsFirstWithin}
use Rattle.nearest_cell.proofs.rings.better_on_ring.Given as goal

abbrev pub invariant-loop-k : goal.invariant-loop-k
invariant-loop-k l = record {
  label : label_of l.p.labels l.best ≡ l.label;
  first : IsFirstWithin l.p.labels l.label l.goal l.ring l.best;
  on_ring : IsFirstOnRing l.p.labels l.label l.goal l.ring l.k l.best;
}
