use Rattle.std.proofs.Common.{◌≡◌, ◌<◌, ◌≤◌, ℕ, ap, arith, sym, subst, ◌∙◌}
use Rattle.std.specs.Prelude.{max}
use Rattle.root2_cost.specs.declared.Cost.{Cost}
use Rattle.root2_cost.specs.Order.{IsLess}
use Rattle.grid_moves.specs.Points.{estimate}
use Rattle.nearest_cell.proofs.Ringed.{nearest_told, rings_done, rings_stopped}
use Rattle.nearest_cell.proofs.rings.nearest.Goals as goal

pub returns-then-label-eq0 : goal.returns-then-label-eq0
returns-then-label-eq0 c = λ g t fresh free. nearest_told g c.args.p.now t fresh c.args.start c.args.goal
    c.args.start free c.label-label.result c.label-label.ensures (λ n. absurd (n c.if-label-eq0.true))

pub returns-then-is_below : goal.returns-then-is_below
returns-then-is_below c = λ g t fresh free.
    let p = c.args.p.now.labels in
    let less : IsLess (estimate c.loop-ring.best c.args.goal) (record { a = c.loop-ring.ring; b = 0 })
    = subst (λ (n : ℕ). IsLess (estimate c.loop-ring.best c.args.goal)
    (record { a = n; b = 0 })) c.from.ensures
    (subst (λ (q : Cost). IsLess q (record { a = c.from.result; b = 0 })) c.estimate.ensures
    (sym c.is_below.ensures ∙ c.if-is_below.true)) in
    nearest_told g c.args.p.now t fresh c.args.start c.args.goal c.loop-ring.best free c.label-label.result
    c.label-label.ensures (λ n. (
      c.loop-ring.invariant.label,
      rings_stopped p c.label-label.result n c.args.goal
          c.loop-ring.ring c.loop-ring.best c.loop-ring.invariant.first less,
    ))

pub returns : goal.returns
returns c = λ g t fresh free.
    let p = c.args.p.now.labels in
    nearest_told g c.args.p.now t fresh c.args.start c.args.goal c.loop-ring.best free c.label-label.result
    c.label-label.ensures (λ n. (
      c.loop-ring.invariant.label,
      rings_done p c.label-label.result n c.args.goal
          c.loop-ring.ring c.loop-ring.best (omega arith) c.requires.column c.requires.row
          c.loop-ring.invariant.first,
    ))
