use Rattle.jps_run.proofs.Drilling.{drilled-more, one-fits, room-left, taken-more}
use Rattle.jps_run.proofs.replies.findings.SummaryJob.answer.Goals as goal

pub count-requires-clause-room : goal.count-requires-clause-room
count-requires-clause-room g c = one-fits c.args.self.now c.requires.room

pub returns-clause-worked : goal.returns-clause-worked
returns-clause-worked g c =
    drilled-more c.args.self.now (record { session = c.find.new.session; sums = c.count.new.self })
    c.args.item c.in_ok-found.found c.in_ok-found.ensures.found c.in_ok-found.ensures.edited c.count.ensures
    c.args._lines.now.items

pub returns-clause-room : goal.returns-clause-room
returns-clause-room g c =
    room-left c.args.self.now (record { session = c.find.new.session; sums = c.count.new.self }) c.args.item
    c.in_ok-found.found c.in_ok-found.ensures.found c.in_ok-found.ensures.edited c.count.ensures
    c.in_ok-found.ensures.short

pub returns-clause-counted : goal.returns-clause-counted
returns-clause-counted g c =
    taken-more c.args.self.now (record { session = c.find.new.session; sums = c.count.new.self }) c.args.item
    c.in_ok-found.found c.in_ok-found.ensures.found c.in_ok-found.ensures.edited c.count.ensures
    c.args.steps.now c.find.new.steps c.in_ok-found.ensures.counted
