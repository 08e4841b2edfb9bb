use Rattle.std.proofs.Common.{[]}
use Rattle.line_work.proofs.Looping.{worked-none, worked-stops, closing-starved, closed, closing-stops}
use Rattle.line_work.proofs.Looping.{closing-ends}
use Rattle.line_work.proofs.job.work_items.Goals as goal

pub returns-in_err-work_more-clause-sent : goal.returns-in_err-work_more-clause-sent
returns-in_err-work_more-clause-sent g c =
    let before = g.O.Sink.outflow c.args.out.now in
    let now = g.O.Sink.outflow c.work_more.new.out in
    worked-stops g.J.Job.has_worked g.J.Job.is_whole g.J.Job.closes c.requires.completes c.args.job.now
    c.work_more.new.job c.args.items.now before now _ now c.from_residual.result c.in_err-work_more.field-0.0
    (c.in_err-work_more.ensures.written c.args.job.now [] [] before
    (worked-none g.J.Job.has_worked g.J.Job.is_whole g.J.Job.closes c.requires.completes c.args.job.now
    c.work_more.new.job c.args.items.now before now c.requires.begins)) c.from_residual.ensures.1

pub returns-in_err-status-clause-sent : goal.returns-in_err-status-clause-sent
returns-in_err-status-clause-sent g c =
    let before = g.O.Sink.outflow c.args.out.now in
    let at = g.O.Sink.outflow c.work_more.new.out in
    closing-starved g.J.Job.has_worked g.J.Job.is_whole g.J.Job.closes c.requires.completes c.args.job.now
    c.work_more.new.job c.args.items.now before at
    (c.in_ok-work_more.ensures.written c.args.job.now [] [] before
    (worked-none g.J.Job.has_worked g.J.Job.is_whole g.J.Job.closes c.requires.completes c.args.job.now
    c.work_more.new.job c.args.items.now before at c.requires.begins)) c.in_err-status.ensures.starved
    c.from_residual-in_err-status.result c.from_residual-in_err-status.ensures.1

pub returns-in_err-send-clause-sent : goal.returns-in_err-send-clause-sent
returns-in_err-send-clause-sent g c =
    let before = g.O.Sink.outflow c.args.out.now in
    let at = g.O.Sink.outflow c.work_more.new.out in
    closing-stops g.J.Job.has_worked g.J.Job.is_whole g.J.Job.closes c.requires.completes c.args.job.now
    c.work_more.new.job c.args.items.now before at c.in_ok-status.status c.as_slice.result.now
    (closed g.J.Job.has_worked g.J.Job.is_whole g.J.Job.closes c.requires.completes c.args.job.now
    c.work_more.new.job c.args.items.now before at
    (c.in_ok-work_more.ensures.written c.args.job.now [] [] before
    (worked-none g.J.Job.has_worked g.J.Job.is_whole g.J.Job.closes c.requires.completes c.args.job.now
    c.work_more.new.job c.args.items.now before at c.requires.begins)) c.in_ok-status.status
    c.new-lines.result.items _ c.new-lines.ensures.items c.in_ok-status.ensures.closed c.as_slice.result.now
    c.as_slice.ensures.value) (g.O.Sink.outflow c.send.new.out) c.from_residual-in_err-send.result
    c.in_err-send.field-0.0 c.in_err-send.ensures.sent c.from_residual-in_err-send.ensures.1

pub returns-clause-sent : goal.returns-clause-sent
returns-clause-sent g c =
    let before = g.O.Sink.outflow c.args.out.now in
    let at = g.O.Sink.outflow c.work_more.new.out in
    closing-ends g.J.Job.has_worked g.J.Job.is_whole g.J.Job.closes c.requires.completes c.args.job.now
    c.work_more.new.job c.args.items.now before at c.in_ok-status.status c.as_slice.result.now
    (closed g.J.Job.has_worked g.J.Job.is_whole g.J.Job.closes c.requires.completes c.args.job.now
    c.work_more.new.job c.args.items.now before at
    (c.in_ok-work_more.ensures.written c.args.job.now [] [] before
    (worked-none g.J.Job.has_worked g.J.Job.is_whole g.J.Job.closes c.requires.completes c.args.job.now
    c.work_more.new.job c.args.items.now before at c.requires.begins)) c.in_ok-status.status
    c.new-lines.result.items _ c.new-lines.ensures.items c.in_ok-status.ensures.closed c.as_slice.result.now
    c.as_slice.ensures.value) (g.O.Sink.outflow c.send.new.out) c.in_ok-send.ensures.sent
