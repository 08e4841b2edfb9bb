use Rattle.std.proofs.Common.{◌≡◌, true, ◌∷◌, sym, ◌∙◌, ap, nat_le, ◌≤◌, ◌+◌, ◌-◌, arith, inl, inr, refl}
use Rattle.std.proofs.lemmas.Bool.{le-leb}
use Rattle.root2_cost.specs.Sums.{add_costs}
use Rattle.root2_cost.proofs.Sums.{add_costs-no_cost_left}
use Rattle.grid_moves.specs.Move.{is_legal}
use Rattle.grid_moves.specs.Points.{are_lined, segment, steps_between}
use Rattle.grid_moves.specs.Walk.{is_walk, cost_of}
use Rattle.grid_moves.proofs.Legal.{legal_is}
use Rattle.path_points.proofs.Running.{run_on, run_off, run_left, run_counted, run_paid, run_ended}
use Rattle.path_points.proofs.Running.{run_paid_off, less_nothing, none_unless, none_where, some_where}
use Rattle.path_points.specs.Checked.{most_steps, run}
use Rattle.path_points.proofs.checking.run_cost.Goals as goal
use Rattle.path_points.proofs.checking.run_cost.Goals.{then-not-are_lined-via-then-not-are_lined}
use Rattle.path_points.proofs.checking.run_cost.Goals.{then-not-are_lined-via-else-not-are_lined+then-before-from-gt-MOST_STEPS}

pub returns-then-not-are_lined-clause-cost : goal.returns-then-not-are_lined-clause-cost
returns-then-not-are_lined-clause-cost g c =
    let u = c.args.from in
    let v = c.args.to in
    none_unless (are_lined u v) (is_walk (g.T.Terrain.grid c.args.t.now) (u ∷ run u v))
    (c.args.before + steps_between u v) most_steps (cost_of (u ∷ run u v)) (elim c.then-not-are_lined.branch [
      | then-not-are_lined-via-then-not-are_lined w ↦ inl (sym c.are_lined.ensures ∙ w.if-not-are_lined.true)
      | then-not-are_lined-via-else-not-are_lined+then-before-from-gt-MOST_STEPS w ↦ inr (omega arith)
    ])

pub loop-init : goal.loop-init
loop-init g c =
    let grid = g.T.Terrain.grid c.args.t.now in
    let u = c.args.from in
    let v = c.args.to in
    let n = c.steps_between-steps.result in
    record {
      free = c.requires.free;
      left = sym c.steps_between-steps.ensures ∙ sym (less_nothing n);
      counted = refl;
      legal = ap (λ k. is_walk grid (u ∷ segment k u v)) (less_nothing n);
      priced =
          add_costs-no_cost_left (cost_of (u ∷ segment (n - 0) u v))
          ∙ ap (λ k. cost_of (u ∷ segment k u v)) (less_nothing n);
    }

pub returns-then-not-is_legal-clause-cost : goal.returns-then-not-is_legal-clause-cost
returns-then-not-is_legal-clause-cost g c =
    let grid = g.T.Terrain.grid c.args.t.now in
    let u = c.args.from in
    let v = c.args.to in
    let n = c.steps_between-steps.result in
    let off =
    run_off grid n c.loop.counter c.loop.at c.step_toward-next.result v (omega arith)
    c.step_toward-next.ensures (sym c.is_legal.ensures ∙ c.if-not-is_legal.true) in
    let none = sym c.loop.invariant.legal ∙ off in
    none_where (are_lined u v) _ (nat_le (c.args.before + steps_between u v) most_steps) _
    (ap (λ n. is_walk grid (u ∷ segment n u v)) (sym c.steps_between-steps.ensures) ∙ none)

pub loop-preserved : goal.loop-preserved
loop-preserved g c =
    let grid = g.T.Terrain.grid c.args.t.now in
    let n = c.steps_between-steps.result in
    let i = c.loop.counter in
    let u = c.loop.at in
    let next = c.step_toward-next.result in
    let v = c.args.to in
    let e = c.step_toward-next.ensures in
    let legal : is_legal grid u next ≡ true = sym c.is_legal.ensures ∙ c.if-not-is_legal.false in
    let paid = c.add-cost.ensures ∙ ap (λ m. add_costs c.loop.cost m) c.move_cost.ensures in
    record {
      free = (legal_is grid u next legal).target;
      counted = run_counted c.loop.cost c.add-cost.result i u next paid c.loop.invariant.counted;
      left = run_left n i u next v e c.loop.invariant.left;
      legal = run_on grid n i u next v (omega arith) e legal ∙ c.loop.invariant.legal;
      priced =
          run_paid c.loop.cost c.add-cost.result n i u next v (omega arith) e paid
          ∙ c.loop.invariant.priced;
    }

pub returns-clause-cost : goal.returns-clause-cost
returns-clause-cost g c =
    let grid = g.T.Terrain.grid c.args.t.now in
    let u = c.args.from in
    let v = c.args.to in
    let n = c.steps_between-steps.result in
    let lined = sym c.are_lined.ensures ∙ c.if-not-are_lined.false in
    let few : c.args.before + steps_between u v ≤ most_steps =
    omega (arith, c.steps_between-steps.ensures, c.from.ensures) in
    let walk =
    ap (λ n. is_walk grid (u ∷ segment n u v)) (sym c.steps_between-steps.ensures)
    ∙ sym c.loop.invariant.legal
    ∙ run_ended grid n c.loop.counter c.loop.at v (omega arith)
    ∙ c.loop.invariant.free in
    let paid =
    sym (run_paid_off c.loop.cost n c.loop.counter c.loop.at v (omega arith))
    ∙ c.loop.invariant.priced
    ∙ ap (λ n. cost_of (u ∷ segment n u v)) c.steps_between-steps.ensures in
    some_where (are_lined u v) _ (nat_le (c.args.before + steps_between u v) most_steps) _ c.loop.cost
    lined walk (le-leb _ _ few) paid
