use Rattle.std.proofs.Common.{◌++◌, ap, ◌∙◌, List, ℕ}
use Rattle.picture.specs.Picture.{row_strokes}
use Rattle.picture.proofs.Rows.{row_drawn}
use Rattle.picture.proofs.strokes.put_strokes.Goals as goal

pub loop-y-preserved : goal.loop-y-preserved
loop-y-preserved c =
    rw c.split_at.ensures.back
    (row_drawn c.args.kind c.args.out.now.items c.args.height c.args.width c.args.cells.now c.loop-y.left.now
    c.loop-y.y c.loop-y.out.items c.loop-y.invariant c.put_row.new.out.items c.loop-y-test.true
    (c.in_ok-put_row.ensures
    ∙ ap (λ (row : List ℕ). c.loop-y.out.items ++ row_strokes c.args.kind c.loop-y.y row)
    c.split_at.ensures.front))
