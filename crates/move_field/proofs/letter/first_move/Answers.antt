use Rattle.std.proofs.Common.{rules}
use Rattle.move_field.proofs.Priced.{nothing-by}
use Rattle.move_field.proofs.letter.first_move.Goals as goal

pub returns-in-None : goal.returns-in-None
returns-in-None g c =
    nothing-by (g.T.Terrain.grid c.args.t.now) c.args.costs.now c.args.c (search rules)
