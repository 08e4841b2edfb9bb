use Rattle.std.proofs.Common.{◌-◌}
use Rattle.std.specs.Prelude.{◌^◌}
use Rattle.jps_run.specs.Hearing.{IsHearing}
use Rattle.jps_run.specs.HeardCounts.{IsRising}
use Rattle.jps_run.proofs.replies.hearing.hear.Given as goal

-- the whole commands so far are answered, and the counter rose for them
abbrev pub invariant-turns : goal.invariant-turns
invariant-turns g l = record {
  hearing : IsHearing l.fn.job l.job l.feeder
      (g.I.Source.inflow l.fn.input)
      (g.I.Source.inflow l.input) l.buffer.items
      (g.O.Sink.outflow l.fn.out)
      (g.O.Sink.outflow l.out);
  rising : IsRising l.fn.job l.job l.feeder (g.I.Source.inflow l.fn.input).left
      (g.I.Source.inflow l.input).left l.fn.steps l.steps;
}

abbrev pub decreases-turns : goal.decreases-turns
decreases-turns g l = 2 ^ 26 - l.feeder.taken
