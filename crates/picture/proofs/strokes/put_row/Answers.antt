use Rattle.std.proofs.Common.{sym, ◌∙◌}
use Rattle.std.specs.Prelude.{decimal}
use Rattle.picture.proofs.Passing.{nothing_drawn}
use Rattle.picture.proofs.strokes.put_row.Goals as goal

pub returns-then-not-has_ground : goal.returns-then-not-has_ground
returns-then-not-has_ground c =
    nothing_drawn c.args.kind (decimal c.args.y) c.args.out.now.items c.args.row.now
    (sym c.has_ground.ensures ∙ c.if-not-has_ground.true)
