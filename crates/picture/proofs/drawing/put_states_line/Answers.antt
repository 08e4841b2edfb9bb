use Rattle.std.specs.Prelude.{◌++◌, codes}
use Rattle.picture.specs.Picture.{path_text, texts_of, state_stroke}
use Rattle.picture.proofs.Texts.{then, line_done}
use Rattle.picture.proofs.drawing.put_states_line.Goals as goal

pub returns : goal.returns
returns c =
    let old = c.args.out.now.items in
    let head = path_text (codes "#f2b84b") in
    let strokes = texts_of (state_stroke c.args.map.now.width) c.args.states.now in
    line_done c.put.result old c.put_states.new.out.items c.put.new.out.items (head ++ strokes) (codes "\"/>")
    (then old c.put_path.new.out.items c.put_states.new.out.items head strokes c.in_ok-put_path.ensures
    c.in_ok-put_states.ensures)
    c.put.ensures.ok
