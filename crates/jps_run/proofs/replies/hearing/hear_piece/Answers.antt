use Rattle.std.proofs.Common.{arith}
use Rattle.jps_run.proofs.Hearing.{piece-heard}
use Rattle.jps_run.proofs.HeardCounts.{rise-piece}
use Rattle.jps_run.proofs.replies.hearing.hear_piece.Goals as goal

pub returns-clause-heard : goal.returns-clause-heard
returns-clause-heard g c =
    piece-heard c.args.job.now c.answer_known.new.job c.args.feeder.now c.feed-fed.new.self c.args.piece.now
    c.new-got.result.items c.feed-fed.new.got.items c.as_slice.result.now c.feed-fed.result
    (g.O.Sink.outflow c.args.out.now)
    (g.O.Sink.outflow c.answer_known.new.out)
    c.answer_known.result c.new-got.ensures.items c.as_slice.ensures.value c.feed-fed.ensures.fed
    c.feed-fed.ensures.memory c.answer_known.ensures.known

pub returns-clause-rose : goal.returns-clause-rose
returns-clause-rose g c = grind (arith, rise-piece)
