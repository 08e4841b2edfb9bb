use Rattle.std.specs.Prelude.{Option}
use Rattle.grid_moves.specs.declared.Dir.{Dir}
use Rattle.goal_boxes.specs.declared.area.Area.{Area}
use Rattle.goal_boxes.specs.Box.{IsAreaOf, IsBox}
use Rattle.goal_boxes.specs.Wide.{Met}
use Rattle.goal_boxes.proofs.Growing.{all_seen, each_dir}
use Rattle.goal_boxes.proofs.around.boxes_of_waves.Goals as goal

pub returns : goal.returns
returns c = λ grid u wide high tells.
    let w = c.args.waves.now in
    let box : (d : Dir) (found : Option Area) → IsAreaOf (Met w d w.height 0) found → IsBox grid u d found =
    all_seen grid u w wide high tells in
    each_dir (λ (d : Dir). λ (found : Option Area). IsBox grid u d found) (box _ _ c.box_toward.ensures)
    (box _ _ c.box_toward-2.ensures) (box _ _ c.box_toward-3.ensures) (box _ _ c.box_toward-4.ensures)
    (box _ _ c.box_toward-5.ensures) (box _ _ c.box_toward-6.ensures) (box _ _ c.box_toward-7.ensures)
    (box _ _ c.box_toward-8.ensures)
