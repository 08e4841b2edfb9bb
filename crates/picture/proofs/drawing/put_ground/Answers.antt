use Rattle.std.proofs.Common.{ap, ◌∙◌, List, ℕ}
use Rattle.std.specs.Prelude.{◌++◌, codes}
use Rattle.map_text.specs.Writing.{rows_of}
use Rattle.picture.specs.Grounds.{colour}
use Rattle.picture.specs.Picture.{path_text, strokes_from}
use Rattle.picture.proofs.Texts.{then, line_done}
use Rattle.picture.proofs.drawing.put_ground.Goals as goal

pub returns : goal.returns
returns c =
    let old = c.args.out.now.items in
    let map = c.args.map.now in
    let kind = c.args.kind in
    let head = path_text (colour kind) in
    let strokes = strokes_from kind 0 (rows_of map.height map.width map.cells) in
    let lent = strokes_from kind 0 (rows_of map.height map.width c.as_slice-cells.result.now) in
    line_done c.put.result old c.put_strokes.new.out.items c.put.new.out.items (head ++ strokes)
    (codes "\"/>")
    (then old c.put_path.new.out.items c.put_strokes.new.out.items (path_text c.colour.result.now) lent
    c.in_ok-put_path.ensures c.in_ok-put_strokes.ensures
    ∙ ap (λ (t : List ℕ). old ++ (path_text t ++ lent)) c.colour.ensures
    ∙ ap (λ (cells : List ℕ). old ++ (head ++ strokes_from kind 0 (rows_of map.height map.width cells)))
    c.as_slice-cells.ensures)
    c.put.ensures.ok
