use Rattle.std.proofs.lemmas.Bool.Decides.{nat_tests}
use Rattle.std.proofs.lemmas.Grind.{common_steps}
use Rattle.std.proofs.Common.{true, false, arith, sym}
use Rattle.grid_moves.specs.Grid.{GridData}
use Rattle.grid_moves.proofs.Ahead.{legal_ahead-free}
use Rattle.pruning.specs.First.{first_stop}
use Rattle.jump_plain.proofs.Forcing.{sides_known}
use Rattle.pruning.proofs.Bridging.{legal_leads}
use Rattle.pruning.proofs.Lengths.{run_length-next, run_length-few}
use Rattle.jump_plain.proofs.Diagonal.{is_stop-read, stops_nowhere, stops_here, stops_later}
use Rattle.jump_plain.proofs.jump.diagonal_stop.Goals as goal

pub overflow_add-moves : goal.overflow_add-moves
overflow_add-moves g c = grind (arith, nat_tests, common_steps, run_length-next, run_length-few)

pub ahead_by-beside-requires-in-Some-clause-free : goal.ahead_by-beside-requires-in-Some-clause-free
ahead_by-beside-requires-in-Some-clause-free g c = grind (arith, nat_tests, common_steps, legal_ahead-free)

pub stops_at-requires-clause-given : goal.stops_at-requires-clause-given
stops_at-requires-clause-given g c =
    let grid : GridData = g.T.Terrain.grid c.args.t.now in
    c.place_ahead-place.ensures c.in-Some.next.cell
    (legal_leads grid c.run.cell c.in-Some.next.cell c.args.d (sym c.in-Some.ensures.legal)).ahead_is

pub ahead_by-beside-requires-in-Some-clause-given : goal.ahead_by-beside-requires-in-Some-clause-given
ahead_by-beside-requires-in-Some-clause-given g c =
    let grid : GridData = g.T.Terrain.grid c.args.t.now in
    c.place_ahead-place.ensures c.in-Some.next.cell
    (legal_leads grid c.run.cell c.in-Some.next.cell c.args.d (sym c.in-Some.ensures.legal)).ahead_is

pub stops_at-requires-clause-free : goal.stops_at-requires-clause-free
stops_at-requires-clause-free g c = grind (arith, nat_tests, common_steps, legal_ahead-free)

pub stops_at-requires-clause-sides : goal.stops_at-requires-clause-sides
stops_at-requires-clause-sides g c = λ s. grind (arith, nat_tests, common_steps, sides_known)

pub returns-then-stops_at : goal.returns-then-stops_at
returns-then-stops_at g c =
    let grid : GridData = g.T.Terrain.grid c.args.t.now in
    stops_here grid c.args.goal c.run.cell c.args.d c.run.moves
    (first_stop grid c.args.goal c.args.at c.args.d) c.run.invariant.stop c.in-Some.next.cell
    (sym c.in-Some.ensures.legal)
    (is_stop-read grid c.args.goal c.args.d c.in-Some.next.cell c.requires.diagonal c.stops_at.result
    true c.stops_at.ensures c.if-stops_at.true)

pub run-smaller : goal.run-smaller
run-smaller g c = grind (arith, nat_tests, common_steps, run_length-next)

pub run-preserved : goal.run-preserved
run-preserved g c =
    let grid : GridData = g.T.Terrain.grid c.args.t.now in
    let legal = sym c.in-Some.ensures.legal in
    record {
      given = c.place_ahead-place.ensures c.in-Some.next.cell
          (legal_leads grid c.run.cell c.in-Some.next.cell c.args.d legal).ahead_is;
      free = legal_ahead-free grid c.run.cell c.in-Some.next.cell c.args.d legal;
      beside = c.ahead_by-beside-in-Some.ensures;
      stop = stops_later grid c.args.goal c.run.cell c.args.d c.run.moves
          (first_stop grid c.args.goal c.args.at c.args.d) c.run.invariant.stop c.in-Some.next.cell legal
          (is_stop-read grid c.args.goal c.args.d c.in-Some.next.cell c.requires.diagonal
          c.stops_at.result false c.stops_at.ensures c.if-stops_at.false);
      run = let next = run_length-next grid c.run.cell c.in-Some.next.cell c.args.d legal in
          let run = c.run.invariant.run in
          omega arith;
    }

pub returns : goal.returns
returns g c =
    let grid : GridData = g.T.Terrain.grid c.args.t.now in
    stops_nowhere grid c.args.goal c.run.cell c.args.d c.run.moves
    (first_stop grid c.args.goal c.args.at c.args.d) c.run.invariant.stop
    (sym c.in_default.ensures.legal)
