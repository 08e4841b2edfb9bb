use Rattle.first_moves.proofs.Following.{inside_next}
use Rattle.first_moves.proofs.guide.MovesGuide.next.Goals as goal

pub returns-clause-inside : goal.returns-clause-inside
returns-clause-inside g c =
    inside_next (g.T.Terrain.grid c.args._t.now) c.args.from c.args.to c.next_near.result
    (c.next_near.ensures.next (g.T.Terrain.grid c.args._t.now) c.requires.stands)

pub returns-clause-next : goal.returns-clause-next
returns-clause-next g c = c.next_near.ensures.next (g.T.Terrain.grid c.args._t.now) c.requires.stands
