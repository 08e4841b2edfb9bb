-- The order of costs a + b√2 with whole a and b, by value.
use Rattle.std.specs.Prelude.{◌≡◌, suc, ◌+◌, ◌*◌, Bool, true, false, nat_lt, IsTrue, refl, pos, negsuc, ℤ}
use Rattle.std.specs.Prelude.{◌-ℤ◌}
use Rattle.root2_cost.specs.declared.Cost.{Cost}

-- x + y√2 is positive, by the three sign cases
abbrev pub is_positive : ℤ → ℤ → Bool
is_positive (pos x) (pos y) = nat_lt 0 (x + y)
is_positive (pos x) (negsuc y) = nat_lt (2 * (suc y * suc y)) (x * x)
is_positive (negsuc x) (pos y) = nat_lt (suc x * suc x) (2 * (y * y))
is_positive (negsuc x) (negsuc y) = false

-- p is less than q where q minus p is positive
abbrev pub is_less : Cost → Cost → Bool
is_less p q = is_positive (pos q.a -ℤ pos p.a) (pos q.b -ℤ pos p.b)

-- p is less than q
abbrev pub IsLess : Cost → Cost → Type 0
IsLess p q = IsTrue (is_less p q)

-- p is at most q: q is not less than p
abbrev pub IsAtMost : Cost → Cost → Type 0
IsAtMost p q = is_less q p ≡ false

-- 99 straight moves cost more than 70 diagonal ones, by less than a hundredth
pub close_pair : is_less (record { a = 0; b = 70 }) (record { a = 99; b = 0 }) ≡ true
close_pair = refl

-- 1414 straight moves cost less than 1000 diagonal ones; with 1.414 for √2 they would cost the same
pub decimals_mislead : is_less (record { a = 1414; b = 0 }) (record { a = 0; b = 1000 }) ≡ true
decimals_mislead = refl

-- no cost is less than itself
pub not_below_itself : is_less (record { a = 3; b = 3 }) (record { a = 3; b = 3 }) ≡ false
not_below_itself = refl
