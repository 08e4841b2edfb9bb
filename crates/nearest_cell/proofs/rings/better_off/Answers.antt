use Rattle.std.proofs.Common.{refl}
use Rattle.nearest_cell.proofs.Order.{no_farther_on}
use Rattle.nearest_cell.proofs.Ringed.{four_met}
use Rattle.nearest_cell.proofs.rings.better_off.Goals as goal

pub returns-clause-kept : goal.returns-clause-kept
returns-clause-kept c =
    let w = c.args.p.now.labels.width in
    no_farther_on w c.args.goal _ _ _ c.better.ensures.kept
    (no_farther_on w c.args.goal _ _ _ c.better-best-3.ensures.kept
    (no_farther_on w c.args.goal _ _ _ c.better-best-2.ensures.kept c.better-best.ensures.kept))

pub returns-clause-met : goal.returns-clause-met
returns-clause-met c = four_met c.args.p.now.labels c.args.label c.args.goal c.args.dx c.args.dy
    c.saturating_sub-left.result _ c.saturating_sub-up.result _ c.saturating_sub-left.ensures refl
    c.saturating_sub-up.ensures refl c.better-best.result c.better-best-2.result c.better-best-3.result
    c.better.result c.better-best-2.ensures.kept c.better-best-3.ensures.kept c.better.ensures.kept
    c.better-best.ensures.met c.better-best-2.ensures.met c.better-best-3.ensures.met c.better.ensures.met
