use Rattle.std.proofs.Common.{◌≡◌, suc, arith}
use Rattle.std.specs.Prelude.{None}
use Rattle.first_moves.proofs.Cutting.{first_there}
use Rattle.first_moves.proofs.row.search.Goals as goal

pub returns-clause-first : goal.returns-clause-first
returns-clause-first c = λ members e h.
    let apart = c.loop-high.invariant.apart in
    let high = c.loop-high.invariant.within in
    let next : c.loop-high.high ≡ suc c.loop-high.low = omega arith in
    first_there c.args.runs.now members c.args.number c.loop-high.low (record { start = 0; first = None }) e h
    (record {
      within = omega arith;
      begun = λ p. c.loop-high.invariant.begun (record { start = 0; first = None }) p;
      ends = rw next at (c.loop-high.invariant.ends (record { start = 0; first = None }));
    })
