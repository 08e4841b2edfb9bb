-- Words of directions put together and taken apart.
use Rattle.std.proofs.lemmas.Grind.{common_steps}
use Rattle.std.proofs.Common.{◌≡◌, ℕ, zero, suc, ◌+◌, ◌-◌, ◌*◌, ◌/◌, ◌%◌, ◌^◌, ◌<◌, ◌≤◌, List, [], ◌∷◌, Bool}
use Rattle.std.proofs.Common.{false, nat_eq, length, get_or, arith, refl, sym, ap, ◌∙◌}
use Rattle.std.specs.Prelude.{filter}
use Rattle.std.proofs.lemmas.Bool.Decides.{nat_tests}
use Rattle.std.proofs.lemmas.List.Sums.{length-filter, count_by-le-length}
use Rattle.grid_moves.specs.declared.Dir.{Dir}
use Rattle.grid_moves.specs.declared.Dir.TheVariants.{N}
use Rattle.grid_moves.specs.Move.{dir_number, all_dirs}
use Rattle.grid_moves.proofs.Dirs.{dir_number-few, numbered_dir}
use Rattle.pruning.specs.Packed.{word_of, dirs_of}

-- a word's lowest digit, and the word of the others
digit_is : (d : Dir) (w : ℕ) → (dir_number d + 1 + 16 * w) % 16 - 1 ≡ dir_number d
digit_is d w = let n = dir_number-few d in omega (arith, n)

-- it tells the first direction
pub first_is : (d : Dir) (w word : ℕ) → word ≡ dir_number d + 1 + 16 * w
    → get_or all_dirs (word % 16 - 1) N ≡ d
first_is d w word h =
    ap (λ (n : ℕ). get_or all_dirs (n % 16 - 1) N) h ∙ ap (λ (n : ℕ). get_or all_dirs n N) (digit_is d w)
    ∙ numbered_dir d

others_are : (d : Dir) (w : ℕ) → (dir_number d + 1 + 16 * w) / 16 ≡ w
others_are d w = let n = dir_number-few d in omega (arith, n)

some_left : (d : Dir) (w : ℕ) → nat_eq (dir_number d + 1 + 16 * w) 0 ≡ false
some_left d w = grind (arith, nat_tests)

one_off : (n w : ℕ) → nat_eq w 0 ≡ false
    → dirs_of (suc n) w ≡ get_or all_dirs (w % 16 - 1) N ∷ dirs_of n (w / 16)
unfolding dirs_of
one_off n w h = rw h refl

-- a word gives the directions that it was made of
gives : (n : ℕ) (ds : List Dir) → length ds ≤ n → dirs_of n (word_of ds) ≡ ds
unfolding dirs_of
gives zero [] h = refl
gives zero (d ∷ ds) h = absurd (omega (arith, h))
gives (suc n) [] h = refl
gives (suc n) (d ∷ ds) h =
    grind (
      arith,
      nat_tests,
      one_off,
      some_left,
      digit_is,
      numbered_dir,
      others_are,
      h,
      gives n ds (omega (arith, h)),
    )

pub shown : (w : ℕ) (ds : List Dir) → w ≡ word_of ds → length ds ≤ 8 → dirs_of 8 w ≡ ds
shown w ds h few = ap (λ (k : ℕ). dirs_of 8 k) h ∙ gives 8 ds few

pub whole : (w : ℕ) (ds : List Dir) → w ≡ word_of ds → length ds ≤ 8 → w ≡ word_of (dirs_of 8 w)
whole w ds h few = h ∙ sym (ap (λ (es : List Dir). word_of es) (shown w ds h few))

-- it gives at most so many
pub few_dirs : (n w : ℕ) → length (dirs_of n w) ≤ n
unfolding dirs_of
few_dirs zero w = omega arith
few_dirs (suc n) w = grind (arith, nat_tests, common_steps, few_dirs n (w / 16))

module _ (left : ℕ) (some : 0 < left) where
  -- a word that is not 0 has a first direction
  pub has_first : (ds : List Dir) → left ≡ word_of ds
      → (d : Dir) × (others : List Dir) × (left ≡ word_of (d ∷ others))
  has_first [] h = absurd (omega (arith, h, some))
  has_first (d ∷ ds) h = (d, ds, h)

  -- and the word of those after it
  pub is_split : (first : Dir) → ((d : Dir) (ds : List Dir) → left ≡ word_of (d ∷ ds) → first ≡ d)
      → (ds : List Dir) → left ≡ word_of ds
      → (others : List Dir) × (ds ≡ first ∷ others) × (left / 16 ≡ word_of others)
  is_split first is [] h = absurd (omega (arith, h, some))
  is_split first is (d ∷ ds) h = grind (arith, nat_tests, others_are)

-- where the word is 0 there are none
pub are_none : (ds : List Dir) → 0 ≡ word_of ds → ds ≡ []
are_none [] h = refl
are_none (d ∷ ds) h = absurd (omega (arith, h))

-- sixteen for each direction
abbrev room_for : List Dir → ℕ
room_for [] = 1
room_for (d ∷ ds) = 16 * room_for ds

below_room : (ds : List Dir) → word_of ds < room_for ds
below_room [] = omega arith
below_room (d ∷ ds) = let n = dir_number-few d in let m = below_room ds in omega (arith, n, m)

few_room : (ds : List Dir) → length ds ≤ 7 → room_for ds ≤ 2 ^ 28
few_room [] h = omega arith
few_room (_ ∷ []) h = omega arith
few_room (_ ∷ _ ∷ []) h = omega arith
few_room (_ ∷ _ ∷ _ ∷ []) h = omega arith
few_room (_ ∷ _ ∷ _ ∷ _ ∷ []) h = omega arith
few_room (_ ∷ _ ∷ _ ∷ _ ∷ _ ∷ []) h = omega arith
few_room (_ ∷ _ ∷ _ ∷ _ ∷ _ ∷ _ ∷ []) h = omega arith
few_room (_ ∷ _ ∷ _ ∷ _ ∷ _ ∷ _ ∷ _ ∷ []) h = omega arith
few_room (_ ∷ _ ∷ _ ∷ _ ∷ _ ∷ _ ∷ _ ∷ _ ∷ ds) h = absurd (omega (arith, h))

-- the word of fewer than eight directions leaves room for one more
pub has_place : (ds : List Dir) → length ds ≤ 7 → word_of ds < 2 ^ 28
has_place ds h = let n = below_room ds in let m = few_room ds h in omega (arith, n, m)

-- a test keeps no more than there are
pub few_kept : (p : Dir → Bool) (ds : List Dir) → length (filter p ds) ≤ length ds
few_kept p ds = let n = length-filter p ds in let m = count_by-le-length p ds in omega (arith, n, m)
