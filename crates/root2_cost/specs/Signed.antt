-- Pairs a + b√2 with parts of either sign: differences of costs.
use Rattle.std.specs.Prelude.{ℕ, Bool, true, false, not, ◌&&◌, ◌≡◌, IsTrue, refl, pos, ◌+ℤ◌, ◌-ℤ◌, neg_ℤ}
use Rattle.root2_cost.specs.declared.Cost.{Cost}
use Rattle.root2_cost.specs.declared.Signed.{Signed}
use Rattle.root2_cost.specs.Order.{is_positive}

-- what p has more than q, part by part
abbrev pub cost_difference : Cost → Cost → Signed
cost_difference p q = record { a = pos p.a -ℤ pos q.a; b = pos p.b -ℤ pos q.b }

-- the value with the other sign
abbrev pub opposite : Signed → Signed
opposite s = record { a = neg_ℤ s.a; b = neg_ℤ s.b }

-- the value less m
abbrev pub lowered : Signed → ℕ → Signed
lowered s m = record { a = s.a -ℤ pos m; b = s.b }

-- the value is above 0
abbrev pub IsAboveZero : Signed → Type 0
IsAboveZero s = IsTrue (is_positive s.a s.b)

-- its opposite is above 0
abbrev pub IsBelowZero : Signed → Type 0
IsBelowZero s = IsAboveZero (opposite s)

-- both parts are 0
abbrev pub IsZero : Signed → Type 0
IsZero s = s ≡ record { a = pos 0; b = pos 0 }

-- |a + b√2| is at most m: neither the value less m nor its opposite less m is above 0
abbrev pub is_within : ℕ → Signed → Bool
is_within m s =
    not (is_positive (lowered s m).a (lowered s m).b)
    && not (is_positive (lowered (opposite s) m).a (lowered (opposite s) m).b)

-- 7 straight moves less 5 diagonal ones: just below 0
pub seven_and_five : IsBelowZero (cost_difference (record { a = 7; b = 0 }) (record { a = 0; b = 5 }))
seven_and_five = refl

-- a cost as such a pair
abbrev pub signed_of : Cost → Signed
signed_of c = record { a = pos c.a; b = pos c.b }

-- the sum, part by part
abbrev pub add_signed : Signed → Signed → Signed
add_signed p q = record { a = p.a +ℤ q.a; b = p.b +ℤ q.b }

-- what p has more than q, part by part
abbrev pub signed_difference : Signed → Signed → Signed
signed_difference p q = record { a = p.a -ℤ q.a; b = p.b -ℤ q.b }

-- p is less than q where q minus p is above 0
abbrev pub is_signed_less : Signed → Signed → Bool
is_signed_less p q = is_positive (q.a -ℤ p.a) (q.b -ℤ p.b)

-- p is less than q
abbrev pub IsSignedLess : Signed → Signed → Type 0
IsSignedLess p q = IsTrue (is_signed_less p q)

-- p is at most q: q is not less than p
abbrev pub IsSignedAtMost : Signed → Signed → Type 0
IsSignedAtMost p q = is_signed_less q p ≡ false

-- from p a step of this cost leads at most to q
abbrev pub RisesAtMost : Signed → Cost → Signed → Type 0
RisesAtMost p step q = IsSignedAtMost q (add_signed p (signed_of step))

-- -3 + √2 is less than -1
pub below_minus_one : IsSignedLess
    (cost_difference (record { a = 0; b = 1 }) (record { a = 3; b = 0 }))
    (cost_difference (record { a = 0; b = 0 }) (record { a = 1; b = 0 }))
below_minus_one = refl

-- from -1 a diagonal step leads to at most -1 + √2, and not to 1
pub within_a_step : RisesAtMost (cost_difference (record { a = 0; b = 0 }) (record { a = 1; b = 0 }))
    (record { a = 0; b = 1 }) (cost_difference (record { a = 0; b = 1 }) (record { a = 1; b = 0 }))
within_a_step = refl

pub beyond_a_step : is_signed_less
    (add_signed (cost_difference (record { a = 0; b = 0 }) (record { a = 1; b = 0 }))
    (signed_of (record { a = 0; b = 1 })))
    (signed_of (record { a = 1; b = 0 })) ≡ true
beyond_a_step = refl
