-- Ranks of costs as numbers of 64 bits.
use Rattle.std.specs.Prelude.{◌≡◌, ℕ, nat_lt, if◌then◌else◌, Option, Some, None, refl}
use Rattle.root2_cost.specs.declared.Cost.{Cost}
use Rattle.root2_cost.specs.Rank.{cost_of_rank}

-- ranks of costs that passes meet are below this, 2^62
abbrev pub rank_limit : ℕ
rank_limit = 4611686018427387904

-- what stands for a cell to which no walk is known, 2^64 - 1
abbrev pub far : ℕ
far = 18446744073709551615

-- the cost that an entry tells, if it tells one
abbrev pub cost_known : ℕ → Option Cost
cost_known rank = if nat_lt rank rank_limit then Some (cost_of_rank rank) else None

pub far_tells_nothing : cost_known far ≡ None
far_tells_nothing = refl
