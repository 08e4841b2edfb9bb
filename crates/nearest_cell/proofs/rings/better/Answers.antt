use Rattle.std.proofs.Common.{◌≡◌, sym, ◌∙◌}
use Rattle.nearest_cell.proofs.Ringed.{is_nearer-first, not_nearer-first}
use Rattle.nearest_cell.proofs.rings.better.Goals as goal

pub returns-then-is_nearer-clause-kept : goal.returns-then-is_nearer-clause-kept
returns-then-is_nearer-clause-kept c = is_nearer-first c.args.p.now.labels c.args.label
    c.requires.some c.args.goal
    c.args.c c.args.best (sym c.label.ensures ∙ c.if-label.false)
    (sym c.is_nearer.ensures ∙ c.if-is_nearer.true)

pub returns-else-is_nearer-clause-met : goal.returns-else-is_nearer-clause-met
returns-else-is_nearer-clause-met c = λ e. not_nearer-first c.args.p.now.labels c.args.label c.requires.some
    c.args.goal c.args.c c.args.best c.requires.best (sym c.is_nearer.ensures ∙ c.if-is_nearer.false)
