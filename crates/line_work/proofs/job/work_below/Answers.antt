use Rattle.std.proofs.Common.{arith}
use Rattle.std.proofs.lemmas.Bool.Decides.{nat_tests}
use Rattle.std.proofs.Common.{[]}
use Rattle.line_work.proofs.Heading.{head-unwritten, head-written}
use Rattle.line_work.proofs.job.work_below.Goals as goal

pub returns-in_err-send-clause-sent : goal.returns-in_err-send-clause-sent
returns-in_err-send-clause-sent g c =
    head-unwritten c.args.head.now (g.J.Job.is_whole c.args.job.now c.args.items.now)
    (g.O.Sink.outflow c.args.out.now) _ (g.O.Sink.outflow c.send.new.out)
    (c.requires.completes c.args.job.now c.args.job.now [] c.args.items.now [] c.requires.begins)
    c.from_residual.result c.in_err-send.field-0.0 c.in_err-send.ensures.sent c.from_residual.ensures.1

pub returns-clause-sent : goal.returns-clause-sent
returns-clause-sent g c = grind (arith, nat_tests, head-written)
