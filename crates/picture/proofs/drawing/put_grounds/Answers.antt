use Rattle.std.specs.Prelude.{[], ◌∷◌}
use Rattle.map_text.specs.Faults.{plain}
use Rattle.picture.specs.declared.kinds.DrawnGround.TheVariants.{Swamp, Trees, Wall, Water}
use Rattle.picture.specs.Picture.{ground_line}
use Rattle.picture.proofs.Texts.{lines_then, lines_then_ok}
use Rattle.picture.proofs.drawing.put_grounds.Goals as goal

pub returns : goal.returns
returns c =
    let old = c.args.out.now.items in
    let map = plain c.args.map.now in
    let swamp = ground_line Swamp map in
    let trees = ground_line Trees map in
    let wall = ground_line Wall map in
    lines_then_ok c.put_ground-4.result (swamp ∷ trees ∷ wall ∷ []) (ground_line Water map ∷ []) old
    c.put_ground-3.new.out.items c.put_ground-4.new.out.items
    (lines_then (swamp ∷ trees ∷ []) (wall ∷ []) old c.put_ground-2.new.out.items c.put_ground-3.new.out.items
    (lines_then (swamp ∷ []) (trees ∷ []) old c.put_ground.new.out.items c.put_ground-2.new.out.items
    c.in_ok-put_ground.ensures c.in_ok-put_ground-2.ensures)
    c.in_ok-put_ground-3.ensures)
    c.put_ground-4.ensures
