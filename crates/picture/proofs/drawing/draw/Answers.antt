use Rattle.std.proofs.Common.{ap, ◌∙◌, List, ℕ}
use Rattle.std.specs.Prelude.{◌++◌}
use Rattle.std.specs.Option.{option_map, option_copied}
use Rattle.map_text.specs.Faults.{plain}
use Rattle.map_text.specs.Writing.{text_of}
use Rattle.picture.specs.Picture.{plain_walk, head_lines, ground_lines, taken_lines, walk_lines, end_lines}
use Rattle.picture.specs.Picture.{picture_of}
use Rattle.picture.proofs.Texts.{lines_then}
use Rattle.picture.proofs.drawing.draw.Goals as goal

pub returns : goal.returns
unfolding picture_of
returns c =
    let old = c.new-out.result.items in
    let map = plain c.args.map.now in
    let tenths = c.thickness-tenths.result in
    let walk = option_map plain_walk c.args.walk in
    let head = head_lines map c.args.start c.args.goal walk in
    let to_grounds = head ++ ground_lines map in
    let taken = taken_lines map.width (option_copied c.args.taken) in
    let to_taken = to_grounds ++ taken in
    let lines = λ (n : ℕ). to_taken ++ walk_lines n walk ++ end_lines n c.args.start c.args.goal in
    lines_then (to_taken ++ walk_lines tenths walk) (end_lines tenths c.args.start c.args.goal) old
    c.put_walk.new.out.items c.put_ends.new.out.items
    (lines_then to_taken (walk_lines tenths walk) old c.put_taken.new.out.items c.put_walk.new.out.items
    (lines_then to_grounds taken old c.put_grounds.new.out.items
    c.put_taken.new.out.items
    (lines_then head (ground_lines map) old c.put_head.new.out.items c.put_grounds.new.out.items
    c.in_ok-put_head.ensures c.in_ok-put_grounds.ensures)
    c.in_ok-put_taken.ensures)
    c.in_ok-put_walk.ensures)
    c.in_ok-put_ends.ensures
    ∙ ap (λ (t : List ℕ). t ++ text_of (lines tenths)) c.new-out.ensures.items
    ∙ ap (λ (n : ℕ). text_of (lines n)) c.thickness-tenths.ensures
