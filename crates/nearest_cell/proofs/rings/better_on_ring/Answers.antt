use Rattle.std.proofs.Common.{◌≡◌, ◌+◌, ◌≤◌, ℕ, ap, arith, sym, subst, ◌∙◌}
use Rattle.root2_cost.specs.declared.Cost.{Cost}
use Rattle.root2_cost.specs.Order.{IsLess}
use Rattle.root2_cost.specs.Sums.{octile_cost}
use Rattle.grid_moves.specs.Points.{estimate}
use Rattle.nearest_cell.proofs.Order.{no_farther_on}
use Rattle.nearest_cell.proofs.Ringed.{ring_done, ring_more, ring_stopped, within_kept}
use Rattle.nearest_cell.proofs.rings.better_on_ring.Goals as goal

pub returns-then-is_below-clause-first : goal.returns-then-is_below-clause-first
returns-then-is_below-clause-first c =
    let octile : c.octile.result ≡ octile_cost c.args.ring c.loop-k.k = c.octile.ensures
    ∙ ap (λ (n : ℕ). octile_cost n c.from-in-loop-k.result) c.from.ensures
    ∙ ap (λ (n : ℕ). octile_cost c.args.ring n) c.from-in-loop-k.ensures in
    ring_stopped c.args.p.now.labels c.args.label c.args.goal c.args.ring c.loop-k.k c.loop-k.best
    c.loop-k.invariant.first c.loop-k.invariant.on_ring
    (subst (λ (q : Cost). IsLess (estimate c.loop-k.best c.args.goal) q) octile
    (subst (λ (p : Cost). IsLess p c.octile.result) c.estimate.ensures
    (sym c.is_below.ensures ∙ c.if-is_below.true)))

pub loop-k-preserved : goal.loop-k-preserved
loop-k-preserved c =
    let p = c.args.p.now.labels in
    let mid = c.better_off-best.ensures in
    let later = c.better_off-best-in-loop-k.ensures in
    record {
      label = later.label;
      first = within_kept p c.args.label c.args.goal c.args.ring c.loop-k.best
          c.better_off-best-in-loop-k.result
          (no_farther_on p.width c.args.goal _ _ _ later.kept mid.kept) c.loop-k.invariant.first;
      on_ring = ring_more p c.args.label c.args.goal c.args.ring c.loop-k.k c.loop-k.best
          c.better_off-best.result c.better_off-best-in-loop-k.result mid.kept later.kept
          c.loop-k.invariant.on_ring mid.met later.met;
    }

pub returns-clause-first : goal.returns-clause-first
returns-clause-first c = ring_done c.args.p.now.labels c.args.label c.args.goal c.args.ring
    c.loop-k.k c.loop-k.best
    (omega arith) c.loop-k.invariant.first c.loop-k.invariant.on_ring
