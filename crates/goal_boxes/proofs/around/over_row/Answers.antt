use Rattle.std.proofs.Common.{◌∙◌, ◌+◌, ap, sym, subst}
use Rattle.std.specs.Prelude.{Option, Some}
use Rattle.goal_boxes.specs.declared.area.Area.{Area}
use Rattle.goal_boxes.specs.Box as box
use Rattle.goal_boxes.specs.Box.{IsAreaOf}
use Rattle.goal_boxes.specs.Wide.{Met}
use Rattle.goal_boxes.proofs.Growing.{row_unreached, row_reached}
use Rattle.goal_boxes.proofs.around.over_row.Goals as goal

pub returns-in-None : goal.returns-in-None
returns-in-None c = row_unreached c.args.waves.now c.args.d c.args.y c.in-None.ensures c.args.before

pub returns-in-Some : goal.returns-in-Some
returns-in-Some c = λ before.
    let w = c.args.waves.now in
    let d = c.args.d in
    let y = c.args.y in
    subst (λ (o : Option Area). IsAreaOf (Met w d (y + 1) 0) o)
    (sym (c.widened-in-Some.ensures
    ∙ ap (λ (o : Option Area). Some (box.widened o (record { x = c.last_reached-last.result; y = y })))
    c.widened.ensures))
    (row_reached w d y c.in-Some.first c.last_reached-last.result c.in-Some.ensures
    c.last_reached-last.ensures c.args.before before)
