use Rattle.std.proofs.Common.{sym, ◌∙◌}
use Rattle.components.proofs.Walking.{reached}
use Rattle.components.proofs.walls.stepped.Goals as goal

pub returns-then-label_at-ne0 : goal.returns-then-label_at-ne0
returns-then-label_at-ne0 c = λ start chain.
    reached c.args.shape c.args.labels.now c.requires.sides start c.args.walker.at c.beyond-to.result c.loop.d
    c.beyond-to.ensures (c.may_link.ensures c.if-may_link.true) chain
    (λ z. c.if-label_at-ne0.true (c.label_at.ensures ∙ z))
