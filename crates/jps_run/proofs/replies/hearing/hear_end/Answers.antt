use Rattle.std.proofs.Common.{refl, arith}
use Rattle.std.specs.Prelude.{Ok, Err}
use Rattle.jps_run.proofs.Hearing.{end-heard}
use Rattle.jps_run.proofs.HeardCounts.{rise-end}
use Rattle.line_work.proofs.Stopping.{passed, follow-same}
use Rattle.jps_run.proofs.replies.hearing.hear_end.Goals as goal

pub returns-in_err-answer_known-clause-ended : goal.returns-in_err-answer_known-clause-ended
returns-in_err-answer_known-clause-ended g c = λ first text before h.
    passed _ _ _ c.from_residual.result c.in_err-answer_known.field-0.0 c.from_residual.ensures.1
    (end-heard c.args.job.now c.answer_known.new.job c.args.feeder.now c.end-ended.new.self
    c.new-got.result.items c.end-ended.new.got.items c.as_slice.result.now c.end-ended.result
    (g.O.Sink.outflow c.args.out.now)
    (g.O.Sink.outflow c.answer_known.new.out)
    (Err c.in_err-answer_known.field-0.0) c.new-got.ensures.items c.as_slice.ensures.value
    c.end-ended.ensures.ended c.end-ended.ensures.memory c.in_err-answer_known.ensures.known first text
    before h)
    (follow-same _)

pub returns-clause-ended : goal.returns-clause-ended
returns-clause-ended g c = λ first text before h.
    let e =
    end-heard c.args.job.now c.answer_known.new.job c.args.feeder.now c.end-ended.new.self
    c.new-got.result.items c.end-ended.new.got.items c.as_slice.result.now c.end-ended.result
    (g.O.Sink.outflow c.args.out.now)
    (g.O.Sink.outflow c.answer_known.new.out)
    (Ok tt) c.new-got.ensures.items c.as_slice.ensures.value
    c.end-ended.ensures.ended c.end-ended.ensures.memory c.in_ok-answer_known.ensures.known first text
    before h in
    (refl, e.1, e.2)

pub returns-clause-rose : goal.returns-clause-rose
returns-clause-rose g c = grind (arith, rise-end)
