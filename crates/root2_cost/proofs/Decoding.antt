-- The cost of a rank.
use Rattle.std.proofs.lemmas.Bool.Decides.{nat_tests}
use Rattle.std.proofs.Common.{◌≡◌, arith}
use Rattle.root2_cost.specs.declared.Cost.{Cost}
use Rattle.root2_cost.specs.Laws.{HasShortParts}
use Rattle.root2_cost.specs.Rank.{rank_of, cost_of_rank}

-- A rank tells its cost. Where r² is 1 more than k times q, r times aq + b(q + r) leaves b modulo q: so many
-- are the diagonal moves, and what is left tells the straight ones.
pub cost-rank : (c : Cost) → HasShortParts c → cost_of_rank (rank_of c) ≡ c
unfolding cost_of_rank
cost-rank c s = grind (arith, nat_tests)
