-- What a write to a part of a list leaves.
use Rattle.std.proofs.lemmas.Bool.Decides.{nat_tests}
use Rattle.std.proofs.Common.{◌≡◌, ℕ, ◌+◌, ◌-◌, ◌<◌, ◌≤◌, arith, List, length, drop, ◌∙◌}
use Rattle.std.specs.Prelude.{slice_index_or}
use Rattle.std.proofs.lemmas.List.{get_or_append_left, get_or-append_right, get_or-take, get_or-drop}
use Rattle.std.proofs.lemmas.List.{length-take-le}
use borrow.Rule.Slice.PartMut.{put_mid, mid_of, mid_len, same_len_mid}

module _ {X : Type 0} (a k : ℕ) (xs ys : List X) (d : X) (inside : a ≤ length xs) where
  pub read_before : (i : ℕ) → i < a → slice_index_or (put_mid a k xs ys) i d ≡ slice_index_or xs i d
  read_before i h = grind (arith, nat_tests, length-take-le, get_or_append_left, get_or-take)

  pub read_within : (i : ℕ) → i < length ys
      → slice_index_or (put_mid a k xs ys) (a + i) d ≡ slice_index_or ys i d
  read_within i h = grind (arith, nat_tests, get_or-append_right, length-take-le, get_or_append_left)

  pub read_behind : (i : ℕ) → a + k ≤ i → length ys ≡ k
      → slice_index_or (put_mid a k xs ys) i d ≡ slice_index_or xs i d
  read_behind i h long = grind (arith, nat_tests, get_or-append_right, length-take-le, get_or-drop)

pub long_with : {X : Type 0} (a e : ℕ) (xs ys : List X) → a ≤ e → e ≤ length xs → length ys ≡ e - a
    → length (put_mid a (e - a) xs ys) ≡ length xs
long_with a e xs ys order inside long = grind (arith, nat_tests, same_len_mid, mid_len)

pub read_part : {X : Type 0} (a k : ℕ) (xs : List X) (i : ℕ) (d : X) → i < k
    → slice_index_or (mid_of a k xs) i d ≡ slice_index_or xs (a + i) d
read_part a k xs i d h = get_or-take k (drop a xs) i d h ∙ get_or-drop a xs i d
