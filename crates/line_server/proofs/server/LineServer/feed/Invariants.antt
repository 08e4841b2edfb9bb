use Rattle.std.proofs.Common.{List, ℕ, length}
use Rattle.io_edge.specs.Known.{Outflow}
use Rattle.line_server.specs.declared.server.LineServer.{LineServer}
use Rattle.line_server.specs.Served.{HasServed}
use Rattle.line_server.proofs.Serving.{IsServing}
use Rattle.line_server.proofs.server.LineServer.feed.Given as goal

abbrev pub invariant-lines : goal.invariant-lines
invariant-lines g l = (first : LineServer) (text : List ℕ) (before : Outflow)
    → HasServed first l.fn.self text before (g.O.Sink.outflow l.fn.out)
    → IsServing first l.self text l.piece l.left before (g.O.Sink.outflow l.out) l.held.items

abbrev pub decreases-lines : goal.decreases-lines
decreases-lines g l = length l.left
