use Rattle.std.proofs.Common.{not, eqb, ◌≤◌, length}
use Rattle.best_first.specs.Space.{KeepsShape, layout_by}
use Rattle.search_core.proofs.Serving.{IsSoFar}
use Rattle.search_core.proofs.jumping.offer_all.Given as goal

-- some of the jumps were offered, and the others are left
abbrev pub invariant-jumps : goal.invariant-jumps
invariant-jumps g l = record {
  so_far : IsSoFar (layout_by (not (eqb g.row.BY_CELL 0))) (g.J.JumpSource.StandsFor l.j) l.query.from
      l.query.to l.last (g.J.JumpSource.most l.j)
      l.fn.dirs l.left l.initial.space l.space l.initial.steps l.steps;
  shape : KeepsShape l.initial.space l.space;
  fewest : l.initial.steps ≤ l.steps;
}

abbrev pub decreases-jumps : goal.decreases-jumps
decreases-jumps g l = length l.left
