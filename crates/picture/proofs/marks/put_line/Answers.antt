use Rattle.std.specs.Prelude.{◌++◌, codes}
use Rattle.picture.specs.Picture.{tenths_text, points_text}
use Rattle.picture.proofs.Texts.{then, line_done}
use Rattle.picture.proofs.marks.put_line.Goals as goal

pub returns : goal.returns
returns c =
    let old = c.args.out.now.items in
    let head =
    codes "<polyline transform=\"translate(.5 .5)\" fill=\"none\" stroke=\"#d1352b\" stroke-width=\"" in
    let wide = head ++ tenths_text c.args.tenths in
    let points = points_text c.args.walk.points.now in
    line_done c.put-3.result old c.put_points.new.out.items c.put-3.new.out.items
    (wide ++ codes "\" points=\"" ++ points) (codes "\"/>")
    (then old c.put-2.new.out.items c.put_points.new.out.items (wide ++ codes "\" points=\"") points
    (then old c.put_tenths.new.out.items c.put-2.new.out.items wide (codes "\" points=\"")
    (then old c.put.new.out.items c.put_tenths.new.out.items head (tenths_text c.args.tenths)
    c.in_ok-put.ensures.ok c.in_ok-put_tenths.ensures)
    c.in_ok-put-2.ensures.ok)
    c.in_ok-put_points.ensures)
    c.put-3.ensures.ok
