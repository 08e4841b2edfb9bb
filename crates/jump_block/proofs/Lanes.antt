-- Eight words at once, lane by lane.
use Rattle.std.proofs.lemmas.Bool.Decides.{nat_tests}
use Rattle.std.proofs.lemmas.Grind.{common_steps}
use Rattle.std.proofs.Common.{◌≡◌, ℕ, ◌+◌, ◌-◌, ◌%◌, ◌<◌, arith, Bool, true, refl, ap, sym, ◌∙◌, bit_or}
use Rattle.std.proofs.Common.{bit_xor, map, List, [], ◌∷◌, length, slice_index_or}
use Rattle.std.specs.Prelude.{nat_eq, take, replicate}
use Rattle.std.specs.Int.{bit_at}
use Rattle.std.specs.Simd.Lanes.{zip2, fold_l, Each1}
use Rattle.std.proofs.lemmas.List.{get_or-map, length-map}
use Rattle.std.proofs.lemmas.Nat.{le_or_l, le_or_r}
use Rattle.std.proofs.lemmas.Nat.Bits.{bit_at-lt, bit_at-zero, bit_at_xor}
use Rattle.std.proofs.lemmas.Simd.{get_or-zip2, length-zip2, get_or-replicate, length-replicate, get_or-chunk}
use Rattle.std.proofs.lemmas.Simd.{length-chunk, Each1-get_or}
use Rattle.grid_moves.specs.Bits.{is_set}
use Rattle.grid_moves.proofs.Bits.{set_all}
use Rattle.jump_block.specs.Eight.{HasNone, IsAllAs}

-- eight lanes, each known by its number
pub record AreLanes (xs : List ℕ) (f : ℕ → ℕ) : Type 0 where
  pub long : length xs ≡ 8
  pub each : (w : ℕ) → w < 8 → slice_index_or xs w 0 ≡ f w

pub own : (xs : List ℕ) → length xs ≡ 8 → AreLanes xs (λ w. slice_index_or xs w 0)
own xs long = record { long = long; each = λ w h. refl }

pub loaded : (xs : List ℕ) → length xs ≡ 8 → AreLanes (take 8 xs) (λ w. slice_index_or xs w 0)
loaded xs long = record {
  long = length-chunk 0 8 xs (omega (arith, long));
  each = λ w h. get_or-chunk 0 8 xs w 0 h ∙ ap (λ (i : ℕ). slice_index_or xs i 0) (omega arith);
}

pub splat : (n : ℕ) → AreLanes (replicate 8 n) (λ w. n)
splat n = record { long = length-replicate 8 n; each = λ w h. get_or-replicate 8 w n 0 h }

pub mapped : (g : ℕ → ℕ) (xs : List ℕ) (f : ℕ → ℕ) → AreLanes xs f → AreLanes (map g xs) (λ w. g (f w))
mapped g xs f a =
    let long = a.long in
    record {
      long = length-map xs g ∙ a.long;
      each = λ w h. get_or-map g xs w 0 0 (omega (arith, long, h)) ∙ ap g (a.each w h);
    }

pub zipped : (g : ℕ → ℕ → ℕ) (xs ys : List ℕ) (f e : ℕ → ℕ) → AreLanes xs f → AreLanes ys e
    → AreLanes (zip2 g xs ys) (λ w. g (f w) (e w))
zipped g xs ys f e a b =
    let one = a.long in
    let other = b.long in
    record {
      long = length-zip2 g xs ys (one ∙ sym other) ∙ one;
      each = λ w h. get_or-zip2 g xs ys w 0 0 0 (omega (arith, one, h)) (omega (arith, other, h))
          ∙ ap (λ (n : ℕ). g n (slice_index_or ys w 0)) (a.each w h) ∙ ap (λ (n : ℕ). g (f w) n) (b.each w h);
    }

-- the bits of any of them together
or_none : (a b : ℕ) → bit_or a b ≡ 0 → (a ≡ 0) × (b ≡ 0)
or_none a b h = grind (arith, nat_tests, common_steps, le_or_l, le_or_r, h)

fold_none : (a : ℕ) (xs : List ℕ) → fold_l bit_or a xs ≡ 0 → (a ≡ 0) × Each1 (λ (x : ℕ). x ≡ 0) xs
fold_none a [] h = (h, tt)
fold_none a (x ∷ xs) h =
    let rest = fold_none (bit_or a x) xs h in
    let both = or_none a x rest.0 in
    (both.0, (both.1, rest.1))

pub none_each : (xs : List ℕ) → length xs ≡ 8 → fold_l bit_or 0 xs ≡ 0 → HasNone xs
none_each xs long h w l =
    Each1-get_or (λ (x : ℕ). x ≡ 0) xs w 0 (omega (arith, long, l)) (fold_none 0 xs h).1

pub none_of_three : (a b c : List ℕ) → length a ≡ 8 → length b ≡ 8 → length c ≡ 8
    → fold_l bit_or 0 (zip2 bit_or (zip2 bit_or a b) c) ≡ 0 → HasNone a × HasNone b × HasNone c
none_of_three a b c la lb lc h =
    let first = zipped bit_or a b _ _ (own a la) (own b lb) in
    let all = zipped bit_or (zip2 bit_or a b) c _ _ first (own c lc) in
    let none = none_each (zip2 bit_or (zip2 bit_or a b) c) all.long h in (
      λ w l. (or_none _ _ (or_none _ _ (sym (all.each w l) ∙ none w l)).0).0,
      λ w l. (or_none _ _ (or_none _ _ (sym (all.each w l) ∙ none w l)).0).1,
      λ w l. (or_none _ _ (sym (all.each w l) ∙ none w l)).1,
    )

-- words that differ nowhere from one whose bits are all alike
alike_bit : (a b j : ℕ) (set : Bool) → bit_xor a b ≡ 0 → is_set b j ≡ set → is_set a j ≡ set
alike_bit a b j set none is =
    same (bit_at a j) (bit_at b j) (bit_at-lt a j) (bit_at-lt b j)
    (sym (bit_at_xor a b j) ∙ ap (λ (n : ℕ). bit_at n j) none ∙ bit_at-zero j) ∙ is
  where
    same : (m n : ℕ) → m < 2 → n < 2 → (m + n) % 2 ≡ 0 → nat_eq m 1 ≡ nat_eq n 1
    same m n h k e = grind (arith, nat_tests, common_steps)

pub all_alike : (set : Bool) (alike : ℕ) (side : List ℕ) → length side ≡ 8
    → ((j : ℕ) → j < 64 → is_set alike j ≡ set)
    → HasNone (zip2 bit_xor (take 8 side) (replicate 8 alike)) → IsAllAs set side
all_alike set alike side long is none w j h k =
    let differ = zipped bit_xor (take 8 side) (replicate 8 alike) _ _ (loaded side long) (splat alike) in
    alike_bit (slice_index_or side w 0) alike j set (sym (differ.each w h) ∙ none w h) (is j k)

-- where no cell is blocked all are free
pub all_free : (middle : List ℕ) → length middle ≡ 8
    → ((w : ℕ) → slice_index_or middle w 0 < 18446744073709551616)
    → HasNone (map (λ n. 18446744073709551615 - n) (take 8 middle)) → IsAllAs true middle
all_free middle long small none w j h k =
    let blocked = mapped (λ n. 18446744073709551615 - n) _ _ (loaded middle long) in
    let is_none = sym (blocked.each w h) ∙ none w h in
    let bounded = small w in
    let full : slice_index_or middle w 0 ≡ 18446744073709551615 = omega (arith, is_none, bounded) in
    ap (λ (n : ℕ). is_set n j) full ∙ set_all j k
