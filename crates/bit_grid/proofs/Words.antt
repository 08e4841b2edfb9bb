-- Single bits of words.
use Rattle.std.proofs.Common.{◌≡◌, ◌≢◌, ℕ, suc, ◌+◌, ◌*◌, ◌-◌, ◌/◌, ◌%◌, ◌^◌, ◌<◌, arith, Bool, true, false}
use Rattle.std.proofs.Common.{not, refl, ap, sym, ◌∙◌, bit_and, bit_or, w64}
use Rattle.std.specs.Prelude.{nat_eq, if◌then◌else◌}
use Rattle.std.specs.Int.{bit_at}
use mir.Val.{bool_byte}
use Rattle.std.proofs.lemmas.Bool.Decides.{nat_tests}
use Rattle.std.proofs.lemmas.Nat.Bits.{bit_at-lt, bit_at-suc, bit_at_not, bit_at_lowest}
use Rattle.std.proofs.lemmas.Nat.Bits.{bit_at_above, bit_at_cat_low, bit_at_set_same, bit_at_set_other}
use Rattle.std.proofs.lemmas.Nat.Bits.{bit_at_clear_same, bit_at_clear_other}
use Rattle.grid_moves.specs.Bits.{is_set}

pub set_not : (a j : ℕ) → a < 18446744073709551616 → j < 64
    → is_set (18446744073709551615 - a) j ≡ not (is_set a j)
set_not a j h k = ap (λ (n : ℕ). nat_eq n 1) (bit_at_not w64 a j h k) ∙ of_bit (bit_at a j) (bit_at-lt a j)
  where
    of_bit : (m : ℕ) → m < 2 → nat_eq (1 - m) 1 ≡ not (nat_eq m 1)
    of_bit m h = grind (arith, nat_tests)

-- a flag as a number has its one bit
pub set_flag : (b : Bool) (n : ℕ) → n ≡ bool_byte b → is_set n 0 ≡ b
set_flag true n e = rw e refl
set_flag false n e = rw e refl

few : (b : Bool) → bool_byte b < 2
few true = omega arith
few false = omega arith

pub set_flag-above : (b : Bool) (n j : ℕ) → n ≡ bool_byte b → is_set n (suc j) ≡ false
set_flag-above b n j e =
    let h : n < 2 = rw e (few b) in ap (λ (m : ℕ). nat_eq m 1) (bit_at_above n 1 (suc j) h (omega arith))

-- shifted by one to the higher bits
pub set_raised-lowest : (a : ℕ) → is_set (a * 2 % 18446744073709551616) 0 ≡ false
set_raised-lowest a =
    let even : a * 2 % 18446744073709551616 % 2 ≡ 0 = omega arith in
    ap (λ (n : ℕ). nat_eq n 1) (bit_at_lowest (a * 2 % 18446744073709551616) ∙ even)

pub set_raised : (a j : ℕ) → suc j < 64 → is_set (a * 2 % 18446744073709551616) (suc j) ≡ is_set a j
set_raised a j h =
    let halved : a * 2 % 18446744073709551616 / 2 ≡ a % 9223372036854775808 = omega arith in
    let parts : a ≡ a / 9223372036854775808 * 9223372036854775808 + a % 9223372036854775808 = omega arith in
    let low = bit_at_cat_low (a / 9223372036854775808) 63 (a % 9223372036854775808) j (omega arith) in
    ap (λ (n : ℕ). nat_eq n 1) (bit_at-suc (a * 2 % 18446744073709551616) j
    ∙ ap (λ (n : ℕ). bit_at n j) halved ∙ sym low ∙ ap (λ (n : ℕ). bit_at n j) (sym parts))

-- and to the lower ones
pub set_lowered : (a j : ℕ) → is_set (a / 2) j ≡ is_set a (suc j)
set_lowered a j = ap (λ (n : ℕ). nat_eq n 1) (sym (bit_at-suc a j))

-- one bit set, or cleared
pub set_with : (word place j : ℕ) → place < 64
    → is_set (bit_or word (1 * 2 ^ place % 18446744073709551616)) j
    ≡ (if nat_eq j place then true else is_set word j)
set_with word place j h = by_test (nat_eq j place) refl
  where
    by_test : (b : Bool) → nat_eq j place ≡ b
        → is_set (bit_or word (1 * 2 ^ place % 18446744073709551616)) j
        ≡ (if b then true else is_set word j)
    by_test true e =
        let same : j ≡ place = grind (arith, nat_tests) in
        rw same (ap (λ (n : ℕ). nat_eq n 1) (bit_at_set_same w64 word place h))
    by_test false e =
        let other : j ≢ place = λ f. grind (arith, nat_tests) in
        ap (λ (n : ℕ). nat_eq n 1) (bit_at_set_other w64 word place h j other)

pub set_without : (word place j : ℕ) → place < 64 → j < 64
    → is_set (bit_and word (18446744073709551615 - 1 * 2 ^ place % 18446744073709551616)) j
    ≡ (if nat_eq j place then false else is_set word j)
set_without word place j h k = by_test (nat_eq j place) refl
  where
    by_test : (b : Bool) → nat_eq j place ≡ b
        → is_set (bit_and word (18446744073709551615 - 1 * 2 ^ place % 18446744073709551616)) j
        ≡ (if b then false else is_set word j)
    by_test true e =
        let same : j ≡ place = grind (arith, nat_tests) in
        rw same (ap (λ (n : ℕ). nat_eq n 1) (bit_at_clear_same w64 word place h))
    by_test false e =
        let other : j ≢ place = λ f. grind (arith, nat_tests) in
        ap (λ (n : ℕ). nat_eq n 1) (bit_at_clear_other w64 word place h j k other)
