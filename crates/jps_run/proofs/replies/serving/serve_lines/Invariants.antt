use Rattle.jps_run.specs.ServeLoop.{IsServing}
use Rattle.jps_run.proofs.replies.serving.serve_lines.Given as goal

-- a byte at least came in by each turn, and the whole lines so far are answered
abbrev pub invariant-turns : goal.invariant-turns
invariant-turns g l = IsServing l.fn.server l.server (g.I.Source.inflow l.fn.input)
    (g.I.Source.inflow l.input)
    l.buffer.items l.turn (g.O.Sink.outflow l.fn.out) (g.O.Sink.outflow l.out)
