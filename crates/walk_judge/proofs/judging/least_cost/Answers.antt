use Rattle.std.proofs.Common.{◌∙◌, sym}
use Rattle.walk_judge.proofs.Judgements.{none_to_blocked}
use Rattle.walk_judge.proofs.judging.least_cost.Goals as goal

pub returns-then-not-free : goal.returns-then-not-free
returns-then-not-free g c = none_to_blocked (g.T.Terrain.grid c.args.t.now) c.args.from c.args.to
    (sym c.free.ensures ∙ c.if-not-free.true)
