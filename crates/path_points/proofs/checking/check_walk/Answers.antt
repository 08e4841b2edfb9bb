use Rattle.std.proofs.Common.{◌+◌, ◌≤◌, sym, ◌∙◌, ap, subst, arith, slice_index_or, drop}
use Rattle.root2_cost.specs.declared.Cost.{Cost}
use Rattle.root2_cost.specs.Sums.{add_costs}
use Rattle.grid_moves.specs.declared.Cell.{Cell}
use Rattle.path_points.specs.Checked.{answer_from, most_steps, starts_free, steps_of}
use Rattle.path_points.proofs.Checks.{answer_at_start, answer_of, good_few, checked_off, checked_on}
use Rattle.path_points.proofs.Checks.{checked_end, good_none, good_some}
use Rattle.path_points.proofs.checking.check_walk.Goals as goal

pub returns-then-not-free : goal.returns-then-not-free
returns-then-not-free g c =
    let grid = g.T.Terrain.grid c.args.t.now in
    let split = sym c.as_slice.ensures ∙ c.in-Some.ensures.cases.0 in
    answer_at_start grid c.args.p.now
    (ap (λ points. starts_free grid points) split ∙ sym c.free.ensures ∙ c.if-not-free.true)

pub returns-in_default-run_cost : goal.returns-in_default-run_cost
returns-in_default-run_cost g c =
    let grid = g.T.Terrain.grid c.args.t.now in
    let others = c.in-Some.others.now in
    let i = c.loop-i.i in
    let last = c.loop-i.last in
    let origin : Cell = record { x = 0; y = 0 } in
    let next : Cell = slice_index_or others i origin in
    let split = sym c.as_slice.ensures ∙ c.in-Some.ensures.cases.0 in
    let bad =
    good_none grid (steps_of c.loop-i.cost) last next
    (sym c.run_cost.ensures.cost ∙ c.in_default-run_cost.is) in
    sym (checked_off grid i last others c.loop-i.cost origin c.loop-i-test.true bad)
    ∙ sym c.loop-i.invariant.decides
    ∙ answer_of grid c.args.p.now c.in-Some.first.now others split
    (sym c.free.ensures ∙ c.if-not-free.false)

pub loop-i-preserved : goal.loop-i-preserved
loop-i-preserved g c =
    let grid = g.T.Terrain.grid c.args.t.now in
    let others = c.in-Some.others.now in
    let i = c.loop-i.i in
    let last = c.loop-i.last in
    let cost = c.loop-i.cost in
    let origin : Cell = record { x = 0; y = 0 } in
    let next : Cell = slice_index_or others i origin in
    let good =
    good_some grid (steps_of cost) last next c.in-Some-run_cost.run'
    (sym c.run_cost.ensures.cost ∙ c.in-Some-run_cost.is) in
    let paid = ap (λ (run : Cost). add_costs cost run) (sym good.1) ∙ sym c.add-cost.ensures in
    record {
      free = c.in-Some-run_cost.ensures.free;
      few = subst (λ (sum : Cost). steps_of sum ≤ most_steps) paid (good_few grid cost last next good.0);
      decides =
          c.loop-i.invariant.decides
          ∙ checked_on grid i last others cost origin c.loop-i-test.true good.0
          ∙ ap (λ (sum : Cost). answer_from grid (i + 1) next (drop (i + 1) others) sum) paid;
    }

pub returns : goal.returns
returns g c =
    let grid = g.T.Terrain.grid c.args.t.now in
    let others = c.in-Some.others.now in
    let split = sym c.as_slice.ensures ∙ c.in-Some.ensures.cases.0 in
    sym (checked_end grid c.loop-i.i c.loop-i.last others c.loop-i.cost (omega arith))
    ∙ sym c.loop-i.invariant.decides
    ∙ answer_of grid c.args.p.now c.in-Some.first.now others split
    (sym c.free.ensures ∙ c.if-not-free.false)
