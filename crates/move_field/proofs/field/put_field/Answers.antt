use Rattle.std.proofs.Common.{◌∙◌, rules}
use Rattle.move_field.proofs.Priced.{priced}
use Rattle.move_field.proofs.field.put_field.Goals as goal

pub put_rows-written-requires : goal.put_rows-written-requires
put_rows-written-requires g c =
    priced (g.T.Terrain.grid c.args.t.now) c.args.goal c.pass.new.self c.as_slice.result.now
    c.width.ensures.whole (c.pass.ensures.width ∙ c.requires.width)
    (c.pass.ensures.height ∙ c.requires.height)
    c.in_ok-pass.ensures.tells (search rules) (search rules)
