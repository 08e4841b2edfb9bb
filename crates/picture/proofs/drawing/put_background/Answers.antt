use Rattle.std.specs.Prelude.{◌++◌, codes}
use Rattle.picture.specs.Picture.{named_text}
use Rattle.picture.proofs.Texts.{then, line_done}
use Rattle.picture.proofs.drawing.put_background.Goals as goal

pub returns : goal.returns
returns c =
    let old = c.args.out.now.items in
    let width = named_text (codes "<rect width=\"") c.args.map.now.width in
    let height = named_text (codes "\" height=\"") c.args.map.now.height in
    line_done c.put.result old c.put_named-2.new.out.items c.put.new.out.items (width ++ height)
    (codes "\" fill=\"#f4f1e8\"/>")
    (then old c.put_named.new.out.items c.put_named-2.new.out.items width height c.in_ok-put_named.ensures
    c.in_ok-put_named-2.ensures)
    c.put.ensures.ok
