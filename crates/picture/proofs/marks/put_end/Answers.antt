use Rattle.std.specs.Prelude.{◌++◌, codes}
use Rattle.picture.specs.Picture.{centre_text, radius_text}
use Rattle.picture.proofs.Texts.{then, line_done}
use Rattle.picture.proofs.marks.put_end.Goals as goal

pub returns : goal.returns
returns c =
    let old = c.args.out.now.items in
    let colour = c.args.colour.now in
    let circle = centre_text c.args.c ++ radius_text c.args.tenths in
    line_done c.put-3.result old c.put-2.new.out.items c.put-3.new.out.items
    (circle ++ codes "\" fill=\"" ++ colour) (codes "\"/>")
    (then old c.put.new.out.items c.put-2.new.out.items (circle ++ codes "\" fill=\"") colour
    (then old c.put_radius.new.out.items c.put.new.out.items circle (codes "\" fill=\"")
    (then old c.put_centre.new.out.items c.put_radius.new.out.items (centre_text c.args.c)
    (radius_text c.args.tenths) c.in_ok-put_centre.ensures c.in_ok-put_radius.ensures)
    c.in_ok-put.ensures.ok)
    c.in_ok-put-2.ensures.ok)
    c.put-3.ensures.ok
