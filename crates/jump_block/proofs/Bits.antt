-- Bits of words: shifted with a carry, the first that is set, and those past a place.
use Rattle.std.proofs.lemmas.Grind.{common_steps}
use Rattle.std.proofs.Common.{◌≡◌, ℕ, suc, ◌+◌, ◌*◌, ◌-◌, ◌/◌, ◌%◌, ◌^◌, ◌<◌, ◌≤◌, ◌⊎◌, arith}
use Rattle.std.proofs.Common.{true, false, not, ◌&&◌, ap, ◌∙◌, bit_and, w64}
use Rattle.std.specs.Prelude.{nat_eq, nat_lt}
use Rattle.std.specs.Int.{bit_at}
use Rattle.std.specs.Int.Count.{count_leading_zeros, count_trailing_zeros}
use Rattle.std.proofs.lemmas.Bool.Decides.{nat_tests}
use Rattle.std.proofs.lemmas.Nat.{leading_top, one_shl, pow_pos, le-div, div_below, shr_le}
use Rattle.std.proofs.lemmas.Nat.Bits.{bit_at_above, bit_at_cat_low, bit_at_cat_high, bit_at-zero}
use Rattle.std.proofs.lemmas.Nat.Bits.{bit_at_lowest, bit_at-trailing_zeros, bit_at_ones, bit_at_ones_above}
use Rattle.std.proofs.lemmas.Nat.Bits.{bit_at-pow_same, bit_at-pow_other, ones_shr}
use Rattle.std.proofs.Math.Nat.{pow-succ'}
use Rattle.std.proofs.lemmas.Bool.{cases_lt}
use Rattle.grid_moves.specs.Bits.{is_set}
use Rattle.grid_moves.proofs.Bits.{set_and}
use Rattle.bit_grid.proofs.Words.{set_not}

-- the highest bit alone
pub set_top : (a : ℕ) → a < 18446744073709551616 → is_set (a / 9223372036854775808) 0 ≡ is_set a 63
set_top a h = grind (arith, nat_tests, common_steps, bit_at_lowest)

pub set_top-above : (a j : ℕ) → a < 18446744073709551616 → is_set (a / 9223372036854775808) (suc j) ≡ false
set_top-above a j h = grind (arith, nat_tests, common_steps, bit_at_above)

-- the lowest bit raised to the highest
parity : (a : ℕ) → a * 9223372036854775808 % 18446744073709551616 ≡ a % 2 * 9223372036854775808 + 0
parity a = omega arith

pub set_bottom : (a : ℕ) → is_set (a * 9223372036854775808 % 18446744073709551616) 63 ≡ is_set a 0
set_bottom a = grind (arith, nat_tests, common_steps, bit_at_cat_high, parity, bit_at_lowest)

pub set_bottom-below : (a j : ℕ) → j < 63
    → is_set (a * 9223372036854775808 % 18446744073709551616) j ≡ false
set_bottom-below a j h = ap (λ (n : ℕ). nat_eq n 1) (ap (λ (n : ℕ). bit_at n j) (parity a)
    ∙ bit_at_cat_low (a % 2) 63 0 j h ∙ bit_at-zero j)

-- a bit past the word
pub set_past : (a : ℕ) → a < 18446744073709551616 → is_set a 64 ≡ false
set_past a h = ap (λ (n : ℕ). nat_eq n 1) (bit_at_above a 64 64 h (omega arith))

-- a side's bits that are not set in what was shifted
pub set_apart : (word shifted j : ℕ) → shifted < 18446744073709551616 → j < 64
    → is_set (bit_and word (18446744073709551615 - shifted)) j ≡ (is_set word j && not (is_set shifted j))
set_apart word shifted j h k = grind (arith, nat_tests, common_steps, set_and, set_not)

-- a bit of a word that is set is its lowest or its highest, or none of those below or above it is
pub lowest_set : (word : ℕ) → 0 < word → word < 18446744073709551616
    → (count_trailing_zeros 64 word < 64) × (is_set word (count_trailing_zeros 64 word) ≡ true)
    × ((j : ℕ) → j < count_trailing_zeros 64 word → is_set word j ≡ false)
lowest_set word h k =
    let known = bit_at-trailing_zeros w64 word h k in
    (known.0, ap (λ (n : ℕ). nat_eq n 1) known.1, λ j l. ap (λ (n : ℕ). nat_eq n 1) (known.2 j l))

pub highest_set : (word : ℕ) → 0 < word → word < 18446744073709551616
    → (count_leading_zeros 64 word < 64) × (is_set word (63 - count_leading_zeros 64 word) ≡ true)
    × ((j : ℕ) → 63 - count_leading_zeros 64 word < j → is_set word j ≡ false)
highest_set word h k =
    let top = leading_top 64 word h k in
    let count : count_leading_zeros 64 word + suc top.0 ≡ 64 = top.1 in
    let place : 63 - count_leading_zeros 64 word ≡ top.0 = omega arith in (
      omega arith,
      rw place (ap (λ (n : ℕ). nat_eq n 1) (one_bit word top.0 top.2 top.3)),
      λ j l. ap (λ (n : ℕ). nat_eq n 1) (bit_at_above word (suc top.0) j top.3 (omega arith)),
    )
  where
    one_bit : (n i : ℕ) → 2 ^ i ≤ n → n < 2 ^ suc i → bit_at n i ≡ 1
    one_bit n i a b = grind (arith, nat_tests, common_steps, pow-succ', le-div, pow_pos, div_below)

-- the bits above a place, and those below
pub set_above : (place j : ℕ) → place < 64 → j < 64
    → is_set (18446744073709551615 - 18446744073709551615 / 2 ^ (63 - place)) j ≡ nat_lt place j
set_above place j h k =
    let width : 64 - (63 - place) ≡ place + 1 = omega arith in
    let ones : 18446744073709551615 / 2 ^ (63 - place) ≡ 2 ^ (place + 1) - 1 =
    ones_shr 64 (63 - place) (omega arith) ∙ ap (λ (n : ℕ). 2 ^ n - 1) width in
    let small : 18446744073709551615 / 2 ^ (63 - place) ≤ 18446744073709551615 =
    shr_le 18446744073709551615 (63 - place) in
    set_not (18446744073709551615 / 2 ^ (63 - place)) j (omega (arith, small)) k
    ∙ ap (λ (n : ℕ). not (is_set n j)) ones ∙ by_place (cases_lt j (place + 1))
  where
    by_place : (j < place + 1) ⊎ (place + 1 ≤ j) → not (is_set (2 ^ (place + 1) - 1) j) ≡ nat_lt place j
    by_place h1 = grind (arith, nat_tests, common_steps, bit_at_ones, bit_at_ones_above)

pub set_below : (place j : ℕ) → place < 64 → j < 64
    → is_set (1 * 2 ^ place % 18446744073709551616 - 1) j ≡ nat_lt j place
set_below place j h k = grind (arith, nat_tests, common_steps, one_shl, bit_at_ones, bit_at_ones_above)

-- one bit
pub set_one : (place j : ℕ) → place < 64 → is_set (1 * 2 ^ place % 18446744073709551616) j ≡ nat_eq j place
set_one place j h = grind (arith, nat_tests, common_steps, one_shl, bit_at-pow_same, bit_at-pow_other)
