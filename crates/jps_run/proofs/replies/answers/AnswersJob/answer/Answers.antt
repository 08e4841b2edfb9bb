use Rattle.std.proofs.Common.{refl}
use Rattle.jps_run.proofs.Rising.{taken-more}
use Rattle.jps_run.proofs.Solving.{answered-more}
use Rattle.jps_run.proofs.replies.answers.AnswersJob.answer.Goals as goal

pub returns-clause-worked : goal.returns-clause-worked
returns-clause-worked g c =
    answered-more c.put_answer.result c.args.self.now
    (record { session = c.put_answer.new.session; show = c.args.self.now.show }) c.args.item
    c.args.lines.now.items c.put_answer.new.lines.items refl c.put_answer.ensures.answered
    c.put_answer.ensures.edited

pub returns-clause-counted : goal.returns-clause-counted
returns-clause-counted g c =
    taken-more c.put_answer.result c.args.self.now
    (record { session = c.put_answer.new.session; show = c.args.self.now.show }) c.args.item
    c.args.steps.now c.put_answer.new.steps c.put_answer.ensures.edited c.put_answer.ensures.counted
