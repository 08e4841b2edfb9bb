-- The order of costs by one whole number.
use Rattle.std.specs.Prelude.{◌≡◌, ℕ, ◌+◌, ◌-◌, ◌*◌, ◌/◌, ◌%◌, nat_lt, true, refl, ℤ, pos, ◌+ℤ◌, ◌*ℤ◌}
use Rattle.root2_cost.specs.declared.Cost.{Cost}
use Rattle.root2_cost.specs.declared.Signed.{Signed}

-- what one straight move counts
abbrev pub straight_rank : ℕ
straight_rank = 3166815962

-- what one diagonal move counts: almost √2 times as much
abbrev pub diagonal_rank : ℕ
diagonal_rank = 4478554083

-- the rank of a cost
abbrev pub rank_of : Cost → ℕ
rank_of c = c.a * straight_rank + c.b * diagonal_rank

-- what a diagonal move counts more than a straight one
abbrev pub rank_step : ℕ
rank_step = 1311738121

-- how many diagonal moves a cost of this rank has
abbrev pub diagonals_of : ℕ → ℕ
diagonals_of rank = rank % straight_rank * rank_step % straight_rank

-- the cost of this rank
unfoldable pub cost_of_rank : ℕ → Cost
cost_of_rank rank = record {
  a = (rank - diagonals_of rank * diagonal_rank) / straight_rank;
  b = diagonals_of rank;
}

-- 5 straight moves and 2 diagonal ones
pub ranked_and_back : cost_of_rank (rank_of (record { a = 5; b = 2 })) ≡ record { a = 5; b = 2 }
unfolding cost_of_rank
ranked_and_back = refl

-- the rank of a difference of costs
abbrev pub signed_rank : Signed → ℤ
signed_rank s = (s.a *ℤ pos straight_rank) +ℤ (s.b *ℤ pos diagonal_rank)

-- the square of the second number is twice that of the first, and one more
pub squares_meet : diagonal_rank * diagonal_rank ≡ 2 * (straight_rank * straight_rank) + 1
squares_meet = refl

-- 99 straight moves cost more than 70 diagonal ones
pub close_ranks : nat_lt (rank_of (record { a = 0; b = 70 })) (rank_of (record { a = 99; b = 0 })) ≡ true
close_ranks = refl

-- with parts up to 2^31 two costs hardly differ more closely than these, of which the first is the lesser
pub closest_ranks :
    nat_lt (rank_of (record { a = 1855077841; b = 0 })) (rank_of (record { a = 0; b = 1311738121 })) ≡ true
closest_ranks = refl
