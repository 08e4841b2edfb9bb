use Rattle.best_first.specs.Trace.{IsOnTheWay, rank_at}
use Rattle.best_first.proofs.space.Space.way_to.Given as goal

abbrev pub invariant-back : goal.invariant-back
invariant-back l = IsOnTheWay l.fn.goal l.self.table.nodes l.fn.at l.points l.cost l.id

abbrev pub decreases-back : goal.decreases-back
decreases-back l = rank_at l.fn.goal l.self.table.nodes l.id
