use Rattle.open_list.proofs.Firsts.{empty_heap}
use Rattle.open_list.proofs.pool.Pool.new.Goals as goal

pub invariant_of-result : goal.invariant_of-result
invariant_of-result g c = rw c.new.ensures.items (empty_heap g.N.Ranked.before)
