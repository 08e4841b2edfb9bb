-- Bits of bytes, 64 at a time.
use Rattle.std.proofs.Common.{◌≡◌, ℕ, zero, suc, ◌*◌, ◌%◌, ◌^◌, ◌<◌, arith, Bool, true, ◌&&◌, refl}
use Rattle.std.proofs.Common.{ap, sym, ◌∙◌, ◌-◌, bit_and, eqb, w8, map, List, length, slice_index_or, false}
use Rattle.std.specs.Simd.Lanes.{zip2, mask_l, top}
use mathlib.Core.Bool.{cond}
use mir.Val.{bits, hbits}
use Rattle.std.proofs.lemmas.Simd.{bitmask_splat, bit_mask_l, get_or-zip2, length-zip2, get_or-replicate}
use Rattle.std.proofs.lemmas.Simd.{length-replicate}
use Rattle.std.proofs.lemmas.List.{get_or-map}
use Rattle.std.specs.Prelude.{nat_eq, replicate}
use Rattle.std.specs.Int.{bit_at}
use Rattle.std.proofs.lemmas.Bool.Decides.{nat_tests}
use Rattle.std.proofs.lemmas.Nat.Bits.{and_pow, bit_at-lt, bit_at_ones}
use Rattle.grid_moves.specs.Bits.{is_set}
use Rattle.grid_moves.proofs.Bits.{set_and}

of_bit : (n m : ℕ) → n < 2 → 0 < m → eqb (n * m) m ≡ nat_eq n 1
of_bit zero m h k = grind (arith, nat_tests)
of_bit (suc zero) m h k = grind (arith, nat_tests)
of_bit (suc (suc n)) m h k = absurd (omega arith)

-- a byte with all bits but one cleared
pub byte_test : (b place : ℕ) → place < 8
    → eqb (bit_and b (1 * 2 ^ place % 256)) (1 * 2 ^ place % 256) ≡ is_set b place
byte_test b place h = by_place place h
  where
    at : (place : ℕ) → 1 * 2 ^ place % 256 ≡ 2 ^ place → 0 < 2 ^ place
        → eqb (bit_and b (1 * 2 ^ place % 256)) (1 * 2 ^ place % 256) ≡ is_set b place
    at place e some = rw (e, and_pow b place) (of_bit (bit_at b place) (2 ^ place) (bit_at-lt b place) some)

    by_place : (place : ℕ) → place < 8
        → eqb (bit_and b (1 * 2 ^ place % 256)) (1 * 2 ^ place % 256) ≡ is_set b place
    by_place zero h = at 0 refl (omega arith)
    by_place (suc zero) h = at 1 refl (omega arith)
    by_place (suc (suc zero)) h = at 2 refl (omega arith)
    by_place (suc (suc (suc zero))) h = at 3 refl (omega arith)
    by_place (suc (suc (suc (suc zero)))) h = at 4 refl (omega arith)
    by_place (suc (suc (suc (suc (suc zero))))) h = at 5 refl (omega arith)
    by_place (suc (suc (suc (suc (suc (suc zero)))))) h = at 6 refl (omega arith)
    by_place (suc (suc (suc (suc (suc (suc (suc zero))))))) h = at 7 refl (omega arith)
    by_place (suc (suc (suc (suc (suc (suc (suc (suc n)))))))) h = absurd (omega arith)

-- a byte of a word
pub set_in_byte : (n k : ℕ) → k < 8 → is_set (bit_and n 255) k ≡ is_set n k
set_in_byte n k h = set_and n 255 k ∙ and_true _ _ (ap (λ (m : ℕ). nat_eq m 1) (bit_at_ones 8 k h))
  where
    and_true : (a b : Bool) → b ≡ true → (a && b) ≡ a
    and_true a b e = grind arith

set_mask : (ms : List Bool) (j : ℕ) → is_set (mask_l ms) j ≡ slice_index_or ms j false
set_mask ms j = ap (λ (n : ℕ). nat_eq n 1) (bit_mask_l ms j) ∙ of_flag (slice_index_or ms j false)
  where
    of_flag : (b : Bool) → nat_eq (cond b 1 0) 1 ≡ b
    of_flag true = refl
    of_flag false = refl

pub lanes_bit : (v : List ℕ) (m j : ℕ) → length v ≡ 64 → j < 64
    → is_set (mask_l (map (top (hbits w8)) (zip2 (λ a b. cond (eqb a b) (2 ^ bits w8 - 1) 0)
    (zip2 bit_and v (replicate 64 m)) (replicate 64 m))) % 2 ^ 64) j
    ≡ eqb (bit_and (slice_index_or v j 0) m) m
lanes_bit v m j long h =
    let xs : List ℕ = zip2 bit_and v (replicate 64 m) in
    let all : length xs ≡ 64 = length-zip2 bit_and v (replicate 64 m) (long ∙ sym (length-replicate 64 m))
    ∙ long in
    let inside : j < length v = omega arith in
    let there : j < length (replicate 64 m) = rw (length-replicate 64 m) h in
    ap (λ (n : ℕ). is_set n j) (bitmask_splat w8 eqb xs 64 m all (omega arith))
    ∙ set_mask (map (λ (x : ℕ). eqb x m) xs) j
    ∙ get_or-map (λ (x : ℕ). eqb x m) xs j 0 false (omega (arith, all))
    ∙ ap (λ (x : ℕ). eqb x m) (get_or-zip2 bit_and v (replicate 64 m) j 0 0 0 inside there
    ∙ ap (λ (n : ℕ). bit_and (slice_index_or v j 0) n) (get_or-replicate 64 j m 0 h))
