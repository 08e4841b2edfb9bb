use Rattle.std.proofs.Common.{◌+◌, ◌<◌, length, arith, ap, ◌∙◌}
use Rattle.grid_moves.specs.declared.Corner.{Corner}
use Rattle.grid_moves.specs.declared.ring.Ring.{Ring}
use Rattle.grid_moves.specs.Ruled.{rule_of_number}
use Rattle.pruning.specs.Ring.{forced_on}
use Rattle.plus_tables.specs.Rows.{ring_of}
use Rattle.plus_tables.proofs.Growing.{flag_more}
use Rattle.plus_tables.proofs.flags.force_by.Goals as goal

pub loop-x-preserved : goal.loop-x-preserved
loop-x-preserved g c =
    let long : c.loop-x.x + 1 < length c.loop-x.forced = omega arith in
    let rule : Corner = rule_of_number g.row.RULE in
    flag_more c.loop-x.forced c.loop-x.x c.forced_on.result
    (λ k. forced_on rule (ring_of c.args.above.now c.args.here.now c.args.below.now k) c.args.d) long
    c.loop-x.invariant
    (c.forced_on.ensures
    ∙ ap (λ (r : Corner). forced_on r c.ring_at.result c.args.d) c.rule_of_number.ensures
    ∙ ap (λ (r : Ring). forced_on rule r c.args.d) c.ring_at.ensures)
