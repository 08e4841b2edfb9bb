use Rattle.std.specs.Prelude.{[], ◌∷◌}
use Rattle.std.specs.Option.{option_map}
use Rattle.map_text.specs.Faults.{plain}
use Rattle.picture.specs.Picture.{frame_line, title_line, background_line, plain_walk}
use Rattle.picture.proofs.Texts.{lines_then, lines_then_ok}
use Rattle.picture.proofs.drawing.put_head.Goals as goal

pub returns : goal.returns
returns c =
    let frame = frame_line (plain c.args.map.now) in
    let title = title_line c.args.start c.args.goal (option_map plain_walk c.args.walk) in
    lines_then_ok c.put_background.result (frame ∷ title ∷ []) (background_line (plain c.args.map.now) ∷ [])
    c.args.out.now.items c.put_title.new.out.items c.put_background.new.out.items
    (lines_then (frame ∷ []) (title ∷ []) c.args.out.now.items c.put_frame.new.out.items
    c.put_title.new.out.items c.in_ok-put_frame.ensures c.in_ok-put_title.ensures)
    c.put_background.ensures
