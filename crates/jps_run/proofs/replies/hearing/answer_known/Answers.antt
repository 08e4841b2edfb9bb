use Rattle.jps_run.proofs.Hearing.{known-stopped, known-ended}
use Rattle.line_work.proofs.Stopping.{if_ok}
use Rattle.jps_run.proofs.Solving.{answers-complete}
use Rattle.jps_run.proofs.replies.hearing.answer_known.Goals as goal

pub work_more-requires-clause-completes : goal.work_more-requires-clause-completes
work_more-requires-clause-completes g c = answers-complete

pub returns-in_err-work_more-clause-known : goal.returns-in_err-work_more-clause-known
returns-in_err-work_more-clause-known g c = λ first earlier all fault before w k.
    known-stopped first c.work_more.new.job c.args.fed earlier c.args.got.now all fault before _ k _
    c.from_residual.result c.in_err-work_more.field-0.0 c.from_residual.ensures.1
    (λ others. c.in_err-work_more.ensures.written first earlier others before w)

pub returns-clause-known : goal.returns-clause-known
returns-clause-known g c = λ first earlier all fault before w k.
    known-ended first c.work_more.new.job c.args.fed earlier c.args.got.now all fault before
    (g.O.Sink.outflow c.work_more.new.out) k
    (c.in_ok-work_more.ensures.written first earlier k.others before w) c.refuse.result c.refuse.ensures

pub returns-clause-rose : goal.returns-clause-rose
returns-clause-rose g c = if_ok c.refuse.result c.in_ok-work_more.ensures.counted
