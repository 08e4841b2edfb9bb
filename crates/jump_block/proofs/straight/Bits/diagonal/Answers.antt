use Rattle.std.proofs.lemmas.Bool.Decides.{nat_tests}
use Rattle.std.proofs.lemmas.Grind.{common_steps}
use Rattle.std.proofs.Common.{◌≡◌, ℕ, ◌+◌, true, false, arith, sym, ◌∙◌}
use Rattle.std.specs.Prelude.{Option}
use Rattle.grid_moves.proofs.Ahead.{legal_ahead-free}
use Rattle.pruning.specs.First.{first_stop, run_length}
use Rattle.jump_plain.proofs.Besides.{beyond_stuck}
use Rattle.pruning.proofs.Lengths.{run_length-next, run_length-few}
use Rattle.jump_plain.proofs.Diagonal.{later, stops_nowhere, stops_here, stops_later}
use Rattle.jump_block.proofs.Aside.{aside_ahead, still_aside}
use Rattle.jump_block.proofs.Diagonals.{legal_next, stop_read}
use Rattle.jump_block.proofs.straight.Bits.diagonal.Goals as goal

-- no moves later is now
at_once : (o : Option ℕ) → o ≡ later 0 o
at_once o = grind (arith, nat_tests, common_steps)

none_before : (n : ℕ) → 0 + n ≡ n
none_before n = omega arith

pub run-init : goal.run-init
run-init g c = record {
  read = omega (arith, c.near-near.ensures.three_steps);
  near = c.near-near.ensures.near;
  aside = λ off. off;
  there = λ grid are free. record {
    free = free;
    stop = at_once (first_stop grid c.args.goal c.args.at c.args.d);
    run = none_before (run_length grid c.args.at c.args.d);
  };
}

pub overflow_add-moves : goal.overflow_add-moves
overflow_add-moves g c = grind (arith, nat_tests, common_steps, legal_next, run_length-next, run_length-few)

pub leads_near-requires-clause-stands : goal.leads_near-requires-clause-stands
leads_near-requires-clause-stands g c = grind (arith, nat_tests, common_steps)

pub stops_at-requires-clause-stands : goal.stops_at-requires-clause-stands
stops_at-requires-clause-stands g c = grind (arith, nat_tests, common_steps, legal_next, legal_ahead-free)

pub returns-then-stops_at-clause-first : goal.returns-then-stops_at-clause-first
returns-then-stops_at-clause-first g c = λ grid are free.
    let there = c.run.invariant.there grid are free in
    let legal = legal_next grid c.run.cell c.beyond-next.result c.args.d c.leads_near.result
    (c.leads_near.ensures.leads grid are there.free) c.run-test.true c.beyond-next.ensures in
    let next = legal_ahead-free grid c.run.cell c.beyond-next.result c.args.d legal in
    stops_here grid c.args.goal c.run.cell c.args.d c.run.moves
    (first_stop grid c.args.goal c.args.at c.args.d) there.stop c.beyond-next.result legal
    (stop_read grid c.args.goal c.args.d c.beyond-next.result c.requires.diagonal _ true
    (c.stops_at.ensures.stops grid are next) c.if-stops_at.true)

pub run-smaller : goal.run-smaller
run-smaller g c =
    let grid = c.requires.stands.0 in
    let are = c.requires.stands.1 in
    let free = c.requires.stands.2 in
    let there = c.run.invariant.there grid are free in
    let legal = legal_next grid c.run.cell c.beyond-next.result c.args.d c.leads_near.result
    (c.leads_near.ensures.leads grid are there.free) c.run-test.true c.beyond-next.ensures in
    let longer = run_length-next grid c.run.cell c.beyond-next.result c.args.d legal in
    let few = run_length-few grid c.args.at c.args.d in
    let wide = are.whole.sides.narrow in
    let high = are.whole.sides.low in
    let run = there.run in
    omega arith

pub near-near-requires-in-run : goal.near-near-requires-in-run
near-near-requires-in-run g c = grind (arith, nat_tests, common_steps, legal_next, legal_ahead-free)

pub run-preserved : goal.run-preserved
run-preserved g c = record {
  read = grind (arith, nat_tests, common_steps);
  near = c.near-near-in-run.ensures.near;
  aside = λ off.
      let grid = c.requires.stands.0 in
      let are = c.requires.stands.1 in
      let there = c.run.invariant.there grid are c.requires.stands.2 in
      still_aside grid c.args.d c.run.cell c.beyond-next.result c.args.goal c.requires.diagonal
      (legal_next grid c.run.cell c.beyond-next.result c.args.d c.leads_near.result
      (c.leads_near.ensures.leads grid are there.free) c.run-test.true c.beyond-next.ensures)
      (c.run.invariant.aside off);
  there = λ grid are free.
      let there = c.run.invariant.there grid are free in
      let legal = legal_next grid c.run.cell c.beyond-next.result c.args.d c.leads_near.result
      (c.leads_near.ensures.leads grid are there.free) c.run-test.true c.beyond-next.ensures in
      let next = legal_ahead-free grid c.run.cell c.beyond-next.result c.args.d legal in
      record {
        free = next;
        stop = stops_later grid c.args.goal c.run.cell c.args.d c.run.moves
            (first_stop grid c.args.goal c.args.at c.args.d) there.stop c.beyond-next.result legal
            (stop_read grid c.args.goal c.args.d c.beyond-next.result c.requires.diagonal _ false
            (c.stops_at.ensures.stops grid are next) c.if-stops_at.false);
        run = grind (arith, nat_tests, common_steps, run_length-next);
      };
}

pub returns-clause-first : goal.returns-clause-first
returns-clause-first g c = λ grid are free.
    let there = c.run.invariant.there grid are free in
    stops_nowhere grid c.args.goal c.run.cell c.args.d c.run.moves
    (first_stop grid c.args.goal c.args.at c.args.d) there.stop
    (beyond_stuck grid c.run.cell c.args.d
    (sym (c.leads_near.ensures.leads grid are there.free) ∙ c.run-test.false))

pub leads_near-requires-clause-near : goal.leads_near-requires-clause-near
leads_near-requires-clause-near g c = c.run.invariant.near

pub stops_at-requires-clause-near : goal.stops_at-requires-clause-near
stops_at-requires-clause-near g c = c.near-near-in-run.ensures.near

pub stops_at-requires-clause-aside : goal.stops_at-requires-clause-aside
stops_at-requires-clause-aside g c = λ off.
    let grid = c.requires.stands.0 in
    let are = c.requires.stands.1 in
    let there = c.run.invariant.there grid are c.requires.stands.2 in
    aside_ahead grid c.args.d c.run.cell c.beyond-next.result c.args.goal c.requires.diagonal
    (legal_next grid c.run.cell c.beyond-next.result c.args.d c.leads_near.result
    (c.leads_near.ensures.leads grid are there.free) c.run-test.true c.beyond-next.ensures)
    (c.run.invariant.aside (c.requires.aside off))
