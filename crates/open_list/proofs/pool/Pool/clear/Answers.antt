use Rattle.open_list.proofs.Firsts.{empty_heap}
use Rattle.open_list.proofs.pool.Pool.clear.Goals as goal

pub invariant_of-self : goal.invariant_of-self
invariant_of-self g c = rw c.clear.ensures.items (empty_heap g.N.Ranked.before)
