use Rattle.std.proofs.lemmas.Bool.Decides.{nat_tests}
use Rattle.std.proofs.lemmas.Grind.{common_steps}
use Rattle.std.proofs.Common.{arith, sym}
use Rattle.grid_moves.specs.Grid.{GridData}
use Rattle.grid_moves.proofs.Ahead.{legal_ahead-free}
use Rattle.jump_plain.specs.Reach.{reach_of}
use Rattle.pruning.proofs.Bridging.{legal_leads}
use Rattle.pruning.proofs.Lengths.{run_length-next, run_length-few}
use Rattle.jump_plain.proofs.Scanning.{mark_ahead-near, reached_end, reached_mark, reached_next, sides_begun}
use Rattle.jump_plain.proofs.Scanning.{sides_shut}
use Rattle.jump_plain.proofs.scan.scan_with.Goals as goal

pub run-init : goal.run-init
run-init g c =
    let grid : GridData = g.T.Terrain.grid c.args.t.now in
    record {
      given = c.requires.given;
      free = c.requires.free;
      left = sides_begun grid c.args.at c.args.d c.requires.straight c.requires.free c.args.sides
          c.requires.sides c.free_bits.result c.shut_bits-shut.result c.free_bits.ensures
          c.shut_bits-shut.ensures;
      run = omega arith;
    }

pub by-requires-clause-free : goal.by-requires-clause-free
by-requires-clause-free g c = grind (arith, nat_tests, common_steps, legal_ahead-free)

pub by-requires-clause-given : goal.by-requires-clause-given
by-requires-clause-given g c =
    let grid : GridData = g.T.Terrain.grid c.args.t.now in
    c.place_ahead-place.ensures c.in-Some.next
    (legal_leads grid c.run.cell c.in-Some.next c.args.d (sym c.in-Some.ensures)).ahead_is

pub overflow_add-result : goal.overflow_add-result
overflow_add-result g c = grind (arith, nat_tests, common_steps, mark_ahead-near, run_length-few)

pub returns-then-opens : goal.returns-then-opens
returns-then-opens g c = grind (arith, nat_tests, common_steps, reached_mark)

pub overflow_add-moves : goal.overflow_add-moves
overflow_add-moves g c = grind (arith, nat_tests, common_steps, run_length-next, run_length-few)

pub run-smaller : goal.run-smaller
run-smaller g c = grind (arith, nat_tests, common_steps, run_length-next)

pub run-preserved : goal.run-preserved
run-preserved g c =
    let grid : GridData = g.T.Terrain.grid c.args.t.now in
    let has = c.run.invariant.left in
    let legal = sym c.in-Some.ensures in
    let free = legal_ahead-free grid c.run.cell c.in-Some.next c.args.d legal in
    record {
      given = c.place_ahead-place.ensures c.in-Some.next
          (legal_leads grid c.run.cell c.in-Some.next c.args.d legal).ahead_is;
      free = free;
      left = record {
        sides = c.by.result;
        are = sides_shut c.by.result c.free_bits-free.result c.shut_bits-shut-in-Some.result
            c.free_bits-free.ensures c.shut_bits-shut-in-Some.ensures;
        left = reached_next grid c.run.cell c.args.d c.requires.straight has.sides
            c.run.moves (reach_of grid c.args.at c.args.d) has.left c.in-Some.next legal
            c.by.result c.by.ensures c.opens.result
            (c.opens.ensures has.sides c.by.result has.are c.free_bits-free.ensures)
            free c.if-opens.false;
      };
      run = let next = run_length-next grid c.run.cell c.in-Some.next c.args.d legal in
          let run = c.run.invariant.run in
          omega arith;
    }

pub returns : goal.returns
returns g c = grind (arith, nat_tests, common_steps, reached_end)
