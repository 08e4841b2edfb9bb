use Rattle.plain_search.proofs.Right.{exhausted_none}
use Rattle.plain_search.proofs.search.exhausted.Goals as goal

pub returns-clause-least : goal.returns-clause-least
returns-clause-least g c = exhausted_none (g.T.Terrain.grid c.args._t.now) c.args.ends.from c.args.ends.to
    c.args.taken
    c.requires.taken
