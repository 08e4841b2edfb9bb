-- The length of eight decimals that stands for a cost, and the bucket that a cost belongs to.
use Rattle.std.specs.Prelude.{ℕ, ◌≡◌, ◌+◌, ◌*◌, if◌then◌else◌, true, false, refl}
use Rattle.root2_cost.specs.declared.Cost.{Cost}
use Rattle.root2_cost.specs.declared.Signed.{Signed}
use Rattle.root2_cost.specs.declared.lengths.Decimal.{Decimal}
use Rattle.root2_cost.specs.Order.{is_positive, is_less, IsLess, IsAtMost}
use Rattle.root2_cost.specs.Signed.{opposite, is_signed_less, IsSignedAtMost}
use Rattle.root2_cost.specs.Verdict.{excess_of}

-- the length with these digits, eight of them behind the point
abbrev pub eight_places : ℕ → Decimal
eight_places digits = record { digits = digits; places = 8 }

-- the amount of a value: the value itself, or its opposite where that is above 0
abbrev pub amount_of : Signed → Signed
amount_of s = if is_positive (opposite s).a (opposite s).b then opposite s else s

-- how far a length is from a cost, in units of its last decimal
abbrev pub distance_to : Cost → Decimal → Signed
distance_to cost length = amount_of (excess_of length cost)

-- the length has eight decimals, and no length of eight decimals is nearer to the cost
pub record IsNearest (cost : Cost) (length : Decimal) : Type 0 where
  pub places : length.places ≡ 8
  pub nearest : (digits : ℕ) → IsSignedAtMost (distance_to cost length)
      (distance_to cost (eight_places digits))

-- 3√2 is 4.242640687..: 4.24264069 is nearer than 4.24264068, to which it would be cut, and than 4.24264070
pub up_and_not_cut : is_signed_less (distance_to (record { a = 0; b = 3 }) (eight_places 424264069))
    (distance_to (record { a = 0; b = 3 }) (eight_places 424264068)) ≡ true
up_and_not_cut = refl

pub up_and_not_further : is_signed_less (distance_to (record { a = 0; b = 3 }) (eight_places 424264069))
    (distance_to (record { a = 0; b = 3 }) (eight_places 424264070)) ≡ true
up_and_not_further = refl

-- 2√2 is 2.828427124..: 2.82842712 is nearer than 2.82842713
pub down : is_signed_less (distance_to (record { a = 0; b = 2 }) (eight_places 282842712))
    (distance_to (record { a = 0; b = 2 }) (eight_places 282842713)) ≡ true
down = refl

-- 2 + √2 is 3.414213562..: 3.41421356 is nearer than 3.41421357
pub with_straight_moves : is_signed_less (distance_to (record { a = 2; b = 1 }) (eight_places 341421356))
    (distance_to (record { a = 2; b = 1 }) (eight_places 341421357)) ≡ true
with_straight_moves = refl

-- so many fours
abbrev pub fours : ℕ → Cost
fours number = record { a = 4 * number; b = 0 }

-- the bucket counts the whole fours in the cost: so many are at most the cost, and one more is more
pub record IsBucket (cost : Cost) (bucket : ℕ) : Type 0 where
  pub at_least : IsAtMost (fours bucket) cost
  pub below : IsLess cost (fours (bucket + 1))

-- 2√2 is less than one four, and 3√2 is more
pub none_whole : is_less (record { a = 0; b = 2 }) (fours 1) ≡ true
none_whole = refl

pub one_whole : is_less (record { a = 0; b = 3 }) (fours 1) ≡ false
one_whole = refl

-- 1 + 93222358√2 is 131836323.9999999962..: its length is 131836324.00000000, which is 32959081 fours, and
-- its bucket is one less
pub rounded_to_a_four : is_signed_less
    (distance_to (record { a = 1; b = 93222358 }) (eight_places 13183632400000000))
    (distance_to (record { a = 1; b = 93222358 }) (eight_places 13183632399999999)) ≡ true
rounded_to_a_four = refl

pub less_than_the_four : is_less (record { a = 1; b = 93222358 }) (fours 32959081) ≡ true
less_than_the_four = refl
