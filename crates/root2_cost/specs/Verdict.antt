-- The verdict on a length that a text tells in decimals, against an exact cost.
use Rattle.std.specs.Prelude.{Bool, ◌≡◌, ◌-◌, ◌*◌, ◌^◌, ◌&&◌, nat_le, if◌then◌else◌, refl, pos, ◌-ℤ◌, neg_ℤ}
use Rattle.root2_cost.specs.declared.Cost.{Cost}
use Rattle.root2_cost.specs.declared.Signed.{Signed}
use Rattle.root2_cost.specs.declared.lengths.Decimal.{Decimal}
use Rattle.root2_cost.specs.declared.lengths.Verdict.{Verdict}
use Rattle.root2_cost.specs.declared.lengths.Verdict.TheVariants.{Agree, Near, Off}
use Rattle.root2_cost.specs.Signed.{is_within}

-- what the digits N of a length with d decimals have more than 10^d times the cost
abbrev pub excess_of : Decimal → Cost → Signed
excess_of length cost = record {
  a = pos length.digits -ℤ pos (10 ^ length.places * cost.a);
  b = neg_ℤ (pos (10 ^ length.places * cost.b));
}

-- there are two decimals, and the difference is at most a hundredth
abbrev pub is_near : Decimal → Cost → Bool
is_near length cost = nat_le 2 length.places && is_within (10 ^ (length.places - 2)) (excess_of length cost)

-- agree where the difference is at most one unit of the last decimal, else near or off
abbrev pub verdict_of : Decimal → Cost → Verdict
verdict_of length cost =
    if is_within 1 (excess_of length cost) then Agree else (if is_near length cost then Near else Off)

-- 2 + √2 is 3.41421..
pub five_decimals : verdict_of (record { digits = 341421; places = 5 }) (record { a = 2; b = 1 }) ≡ Agree
five_decimals = refl

-- 3.405 is within a hundredth of it
pub within_a_hundredth : verdict_of (record { digits = 3405; places = 3 }) (record { a = 2; b = 1 }) ≡ Near
within_a_hundredth = refl

-- 3.40 is not
pub off_by_more : verdict_of (record { digits = 340; places = 2 }) (record { a = 2; b = 1 }) ≡ Off
off_by_more = refl

-- a whole number that is off by exactly 1 agrees
pub off_by_one : verdict_of (record { digits = 4; places = 0 }) (record { a = 3; b = 0 }) ≡ Agree
off_by_one = refl
