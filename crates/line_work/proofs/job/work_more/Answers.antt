use Rattle.std.proofs.Common.{◌≡◌, ◌+◌, ◌-◌, ◌<◌, [], length, subst, arith}
use Rattle.line_work.proofs.Looping.{counts-none, counts-more, counts-all, working-begun, working-more}
use Rattle.line_work.proofs.Looping.{working-on, working-starved, working-unwritten, working-done}
use Rattle.line_work.proofs.Stopping.{if_ok}
use Rattle.line_work.proofs.job.work_more.Goals as goal

pub loop-item-init : goal.loop-item-init
loop-item-init g c = record {
  working = λ first earlier before w.
      working-begun g.J.Job.has_worked g.J.Job.is_whole g.J.Job.closes c.requires.completes first earlier
      c.args.items.now [] before c.args.job.now _ c.new-lines.result.items c.new-lines.ensures.items w;
  room = subst (λ n. g.J.Job.has_room c.args.job.now n)
      (let e : length c.args.items.now ≡ length c.args.items.now - 0 = omega arith in e) c.requires.room;
  counted = counts-none g.J.Job.has_counted c.args.job.now c.args.steps.now;
}

pub answer-requires-clause-room : goal.answer-requires-clause-room
answer-requires-clause-room g c = (
  length c.args.items.now - (c.loop-item.item-index + 1),
  subst (λ n. g.J.Job.has_room c.loop-item.job n)
      (let h : c.loop-item.item-index < length c.args.items.now = c.loop-item-test.true in
      let e : length c.args.items.now - c.loop-item.item-index
      ≡ length c.args.items.now - (c.loop-item.item-index + 1) + 1 = omega arith in e)
      c.loop-item.invariant.room,
)

pub returns-in_err-answer-clause-written : goal.returns-in_err-answer-clause-written
returns-in_err-answer-clause-written g c = λ first earlier others before w.
    working-starved g.J.Job.has_worked g.J.Job.is_whole g.J.Job.closes c.requires.completes first earlier
    c.args.items.now others before _ c.loop-item.job c.loop-item.item-index _ _ c.loop-item-test.true
    (c.loop-item.invariant.working first earlier before w) c.from_residual.result c.from_residual.ensures.1

pub returns-in_err-send_full-clause-written : goal.returns-in_err-send_full-clause-written
returns-in_err-send_full-clause-written g c = λ first earlier others before w.
    working-unwritten g.J.Job.has_worked g.J.Job.is_whole g.J.Job.closes c.requires.completes first earlier
    c.args.items.now others before _ c.answer.new.self (c.loop-item.item-index + 1)
    (g.O.Sink.outflow c.loop-item.out) (g.O.Sink.outflow c.send_full.new.out) _
    (working-more g.J.Job.has_worked g.J.Job.is_whole g.J.Job.closes c.requires.completes first earlier
    c.args.items.now others before c.loop-item.job c.answer.new.self c.loop-item.item-index c.item-item.result
    _ _ _ c.loop-item-test.true c.item-item.is (c.loop-item.invariant.working first earlier before w)
    c.in_ok-answer.ensures.worked)
    c.from_residual-in_err-send_full.result c.in_err-send_full.field-0.0 c.in_err-send_full.ensures.sent
    c.from_residual-in_err-send_full.ensures.1

pub loop-item-preserved : goal.loop-item-preserved
loop-item-preserved g c = record {
  working = λ first earlier before w.
      working-on g.J.Job.has_worked g.J.Job.is_whole g.J.Job.closes c.requires.completes first earlier
      c.args.items.now [] before c.answer.new.self _ (g.O.Sink.outflow c.loop-item.out)
      (g.O.Sink.outflow c.send_full.new.out) _ c.send_full.new.waiting.items
      (working-more g.J.Job.has_worked g.J.Job.is_whole g.J.Job.closes c.requires.completes first earlier
      c.args.items.now [] before c.loop-item.job c.answer.new.self c.loop-item.item-index c.item-item.result
      _ _ _ c.loop-item-test.true c.item-item.is (c.loop-item.invariant.working first earlier before w)
      c.in_ok-answer.ensures.worked) c.send_full.ensures.later c.in_ok-send_full.ensures.sent;
  room = c.in_ok-answer.ensures.room (length c.args.items.now - (c.loop-item.item-index + 1))
      (subst (λ n. g.J.Job.has_room c.loop-item.job n)
      (let h : c.loop-item.item-index < length c.args.items.now = c.loop-item-test.true in
      let e : length c.args.items.now - c.loop-item.item-index
      ≡ length c.args.items.now - (c.loop-item.item-index + 1) + 1 = omega arith in e)
      c.loop-item.invariant.room);
  counted = counts-more g.J.Job.has_counted c.args.job.now c.loop-item.job c.answer.new.self c.args.items.now
      c.loop-item.item-index c.item-item.result c.args.steps.now c.loop-item.steps c.answer.new.steps
      c.loop-item-test.true c.item-item.is c.loop-item.invariant.counted c.in_ok-answer.ensures.counted;
}

pub returns-clause-written : goal.returns-clause-written
returns-clause-written g c = λ first earlier others before w.
    working-done g.J.Job.has_worked g.J.Job.is_whole g.J.Job.closes c.requires.completes first earlier
    c.args.items.now others before c.loop-item.job c.loop-item.item-index (g.O.Sink.outflow c.loop-item.out)
    (g.O.Sink.outflow c.send.new.out) _ c.as_slice.result.now c.loop-item-test.false
    (c.loop-item.invariant.working first earlier before w) c.as_slice.ensures.value c.send.ensures.later
    c.send.result c.send.ensures.sent

pub returns-clause-counted : goal.returns-clause-counted
returns-clause-counted g c = (if_ok c.send.result
    (counts-all g.J.Job.has_counted c.args.job.now c.loop-item.job c.args.items.now c.loop-item.item-index
    c.args.steps.now c.loop-item.steps c.loop-item-test.false c.loop-item.invariant.counted))
