-- Single bits of numbers.
use Rattle.std.proofs.Common.{◌≡◌, ℕ, ◌+◌, ◌/◌, ◌%◌, ◌^◌, ◌<◌, arith, true, false, ap, ◌&&◌, ◌||◌}
use Rattle.std.proofs.Common.{bit_and, bit_or}
use Rattle.std.specs.Prelude.{nat_eq, min, max}
use Rattle.std.proofs.lemmas.Bool.Decides.{nat_tests}
use Rattle.std.proofs.lemmas.Nat.{shr-shr}
use Rattle.std.specs.Int.{bit_at}
use Rattle.std.proofs.lemmas.Nat.Bits.{bit_at-lt, bit_at-zero, bit_at_and, bit_at_or, bit_at_ones}
use Rattle.grid_moves.specs.Bits.{is_set}

-- of two numbers together
pub set_and : (a b j : ℕ) → is_set (bit_and a b) j ≡ (is_set a j && is_set b j)
set_and a b j = rw (bit_at_and a b j) (of_bits (bit_at a j) (bit_at b j) (bit_at-lt a j) (bit_at-lt b j))
  where
    of_bits : (m n : ℕ) → m < 2 → n < 2 → nat_eq (min m n) 1 ≡ (nat_eq m 1 && nat_eq n 1)
    of_bits m n h k = grind (arith, nat_tests)

pub set_or : (a b j : ℕ) → is_set (bit_or a b) j ≡ (is_set a j || is_set b j)
set_or a b j = rw (bit_at_or a b j) (of_bits (bit_at a j) (bit_at b j) (bit_at-lt a j) (bit_at-lt b j))
  where
    of_bits : (m n : ℕ) → m < 2 → n < 2 → nat_eq (max m n) 1 ≡ (nat_eq m 1 || nat_eq n 1)
    of_bits m n h k = grind (arith, nat_tests)

pub set_none : (j : ℕ) → is_set 0 j ≡ false
set_none j = ap (λ (n : ℕ). nat_eq n 1) (bit_at-zero j)

pub set_all : (j : ℕ) → j < 64 → is_set 18446744073709551615 j ≡ true
set_all j h = ap (λ (n : ℕ). nat_eq n 1) (bit_at_ones 64 j h)

-- those from a place on
pub set_from : (word place j : ℕ) → is_set (word / 2 ^ place) j ≡ is_set word (place + j)
set_from word place j = ap (λ (n : ℕ). nat_eq (n % 2) 1) (shr-shr word place j)
