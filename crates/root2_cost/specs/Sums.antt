-- Sums of costs, and the octile distance.
use Rattle.std.specs.Prelude.{◌≡◌, ℕ, ◌+◌, ◌-◌, ◌&&◌, Bool, max, min, nat_eq, refl}
use Rattle.root2_cost.specs.declared.Cost.{Cost}

-- the cost of no move
abbrev pub no_cost : Cost
no_cost = record { a = 0; b = 0 }

-- part by part
abbrev pub add_costs : Cost → Cost → Cost
add_costs p q = record { a = p.a + q.a; b = p.b + q.b }

-- the costs are one
abbrev pub is_same_cost : Cost → Cost → Bool
is_same_cost p q = nat_eq p.a q.a && nat_eq p.b q.b

-- what dx columns and dy rows cost where nothing is in the way
abbrev pub octile_cost : ℕ → ℕ → Cost
octile_cost dx dy = record { a = max dx dy - min dx dy; b = min dx dy }

-- 5 columns and 2 rows: two diagonal moves and three straight ones
pub five_and_two : octile_cost 5 2 ≡ record { a = 3; b = 2 }
five_and_two = refl
