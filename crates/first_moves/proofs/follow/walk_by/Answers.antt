use Rattle.std.proofs.Common.{arith, ◌∙◌, sym}
use Rattle.grid_moves.proofs.Legal.{is_same-cell}
use Rattle.first_moves.proofs.Following.{set_out_by, one_on_by, counts_one, counts_more, few_moves}
use Rattle.first_moves.proofs.Following.{no_move_by, arrived, stands, apart_by, same_by}
use Rattle.first_moves.proofs.follow.walk_by.Goals as goal

pub returns-then-eq-clause-walk : goal.returns-then-eq-clause-walk
returns-then-eq-clause-walk g c =
    no_move_by (g.T.Terrain.grid c.args.t.now) c.args.from c.args.to c.new-points.result c.push.new.self
    c.requires.from (is_same-cell c.args.from c.args.to (sym c.eq.ensures ∙ c.if-eq.true))
    c.new-points.ensures c.in_ok-push.ensures.pushed

pub returns-then-eq-clause-stands : goal.returns-then-eq-clause-stands
returns-then-eq-clause-stands g c =
    stands (g.T.Terrain.grid c.args.t.now) c.args.from c.args.to c.push.new.self _
    (returns-then-eq-clause-walk g c)

pub loop-to-init : goal.loop-to-init
loop-to-init g c =
    let one = counts_one c.args.from c.in-Some.at c.move_cost-cost.result c.move_cost-cost.ensures in
    let step = c.next.ensures.steps in
    record {
      way = set_out_by (g.T.Terrain.grid c.args.t.now) c.args.from c.args.to c.in-Some.at c.new-points.result
          c.push.new.self c.move_cost-cost.result c.in-Some.ensures.next c.new-points.ensures
          c.in_ok-push.ensures.pushed c.move_cost-cost.ensures;
      inside = c.in-Some.ensures.inside;
      counted = omega (arith, one, step);
    }

pub add-cost-requires-clause-straight : goal.add-cost-requires-clause-straight
add-cost-requires-clause-straight g c =
    let one = counts_one c.loop-to.at c.in-Some-next.next c.move_cost.result c.move_cost.ensures in
    let few = few_moves (g.T.Terrain.grid c.args.t.now) c.args.from c.args.to c.loop-to.before c.loop-to.at
    c.loop-to.points c.loop-to.cost c.loop-to.invariant.way
    (apart_by c.loop-to.at c.args.to c.ne.result c.ne.ensures c.loop-to-test.true) in
    let most = c.requires.few in
    omega (arith, one, few, most)

pub add-cost-requires-clause-diagonal : goal.add-cost-requires-clause-diagonal
add-cost-requires-clause-diagonal g c =
    let one = counts_one c.loop-to.at c.in-Some-next.next c.move_cost.result c.move_cost.ensures in
    let few = few_moves (g.T.Terrain.grid c.args.t.now) c.args.from c.args.to c.loop-to.before c.loop-to.at
    c.loop-to.points c.loop-to.cost c.loop-to.invariant.way
    (apart_by c.loop-to.at c.args.to c.ne.result c.ne.ensures c.loop-to-test.true) in
    let most = c.requires.few in
    omega (arith, one, few, most)

pub loop-to-smaller : goal.loop-to-smaller
loop-to-smaller g c =
    let more = counts_more c.loop-to.at c.in-Some-next.next c.loop-to.cost c.move_cost.result
    c.add-cost.result
    c.move_cost.ensures c.add-cost.ensures in
    let few = few_moves (g.T.Terrain.grid c.args.t.now) c.args.from c.args.to c.loop-to.before c.loop-to.at
    c.loop-to.points c.loop-to.cost c.loop-to.invariant.way
    (apart_by c.loop-to.at c.args.to c.ne.result c.ne.ensures c.loop-to-test.true) in
    omega (arith, more, few)

pub loop-to-preserved : goal.loop-to-preserved
loop-to-preserved g c =
    let more = counts_more c.loop-to.at c.in-Some-next.next c.loop-to.cost c.move_cost.result
    c.add-cost.result
    c.move_cost.ensures c.add-cost.ensures in
    let step = c.next-in-loop-to.ensures.steps in
    let so_far = c.loop-to.invariant.counted in
    record {
      way = one_on_by (g.T.Terrain.grid c.args.t.now) c.args.from c.args.to c.loop-to.before c.loop-to.at
          c.in-Some-next.next c.loop-to.points c.push_turn.new.points c.loop-to.cost c.move_cost.result
          c.add-cost.result c.loop-to.invariant.way c.in-Some-next.ensures.next
          c.in_ok-push_turn.ensures.turned
          c.move_cost.ensures c.add-cost.ensures;
      inside = c.in-Some-next.ensures.inside;
      counted = omega (arith, more, step, so_far);
    }

pub returns-clause-walk : goal.returns-clause-walk
returns-clause-walk g c =
    arrived (g.T.Terrain.grid c.args.t.now) c.args.from c.args.to c.loop-to.before c.loop-to.at
    c.loop-to.points c.push-2.new.self c.loop-to.cost c.loop-to.invariant.way
    (same_by c.loop-to.at c.args.to c.ne.result c.ne.ensures c.loop-to-test.false) c.requires.to
    c.in_ok-push-2.ensures.pushed

pub returns-clause-stands : goal.returns-clause-stands
returns-clause-stands g c =
    stands (g.T.Terrain.grid c.args.t.now) c.args.from c.args.to c.push-2.new.self c.loop-to.cost
    (returns-clause-walk g c)
