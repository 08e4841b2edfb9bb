use Rattle.std.proofs.Common.{◌∙◌, ap}
use Rattle.walk_judge.specs.declared.judging.Judged.{Judged}
use Rattle.walk_judge.specs.declared.judging.Judged.TheVariants as judged
use Rattle.jps_run.specs.declared.replies.ruling.Ruling.TheVariants as ruling
use Rattle.jps_run.proofs.Counted.{counts-more}
use Rattle.jps_run.proofs.replies.ruling.Counts.count.Goals as goal

pub returns-in-Judged-NoWalk : goal.returns-in-Judged-NoWalk
returns-in-Judged-NoWalk c = λ all e.
    counts-more c.args.self.now all c.args.ruling (ruling.Judged judged.NoWalk)
    (c.in-Judged-NoWalk.is ∙ ap (λ (j : Judged). ruling.Judged j)
    (rw c.in-Judged-NoWalk.is at c.in-Judged-NoWalk.field-0-is)) e

pub returns-in-Judged-Least : goal.returns-in-Judged-Least
returns-in-Judged-Least c = λ all e.
    counts-more c.args.self.now all c.args.ruling (ruling.Judged (judged.Least c.in-Judged-Least.field-0-0))
    (c.in-Judged-Least.is ∙ ap (λ (j : Judged). ruling.Judged j)
    (rw c.in-Judged-Least.is at c.in-Judged-Least.field-0-is)) e

pub returns-in-Judged-Exists : goal.returns-in-Judged-Exists
returns-in-Judged-Exists c = λ all e.
    counts-more c.args.self.now all c.args.ruling (ruling.Judged (judged.Exists c.in-Judged-Exists.field-0-0))
    (c.in-Judged-Exists.is ∙ ap (λ (j : Judged). ruling.Judged j)
    (rw c.in-Judged-Exists.is at c.in-Judged-Exists.field-0-is)) e

pub returns-in-Judged-BadWalk : goal.returns-in-Judged-BadWalk
returns-in-Judged-BadWalk c = λ all e.
    counts-more c.args.self.now all c.args.ruling
    (ruling.Judged (judged.BadWalk c.in-Judged-BadWalk.field-0-0))
    (c.in-Judged-BadWalk.is ∙ ap (λ (j : Judged). ruling.Judged j)
    (rw c.in-Judged-BadWalk.is at c.in-Judged-BadWalk.field-0-is)) e

pub returns-in-Judged-Longer : goal.returns-in-Judged-Longer
returns-in-Judged-Longer c = λ all e.
    counts-more c.args.self.now all c.args.ruling (ruling.Judged
    (judged.Longer c.in-Judged-Longer.field-0-0 c.in-Judged-Longer.field-0-1))
    (c.in-Judged-Longer.is ∙ ap (λ (j : Judged). ruling.Judged j)
    (rw c.in-Judged-Longer.is at c.in-Judged-Longer.field-0-is)) e
