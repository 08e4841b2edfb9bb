use Rattle.std.specs.Prelude.{[], ◌∷◌, codes}
use Rattle.picture.specs.Picture.{end_line}
use Rattle.picture.proofs.Texts.{lines_then, lines_then_ok}
use Rattle.picture.proofs.drawing.put_ends.Goals as goal

pub returns : goal.returns
returns c =
    let start = end_line c.args.tenths (codes "#1f6f43") c.args.start in
    let end = end_line c.args.tenths (codes "#7b2d8b") c.args.goal in
    lines_then_ok c.put.result (start ∷ end ∷ []) (codes "</svg>" ∷ []) c.args.out.now.items
    c.put_end-2.new.out.items c.put.new.out.items
    (lines_then (start ∷ []) (end ∷ []) c.args.out.now.items c.put_end.new.out.items c.put_end-2.new.out.items
    c.in_ok-put_end.ensures c.in_ok-put_end-2.ensures)
    c.put.ensures.ok
