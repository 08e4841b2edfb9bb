-- The words of a line, one after another.
use Rattle.std.proofs.Common.{◌≡◌, ℕ, ◌+◌, ◌<◌, true, false, List, ◌∷◌, map, length, get_or, drop, refl}
use Rattle.std.proofs.Common.{arith}
use Rattle.std.specs.Str.{bytes_eq}
use Rattle.std.specs.Cmp.Lexicographic.{pointwise}
use Rattle.std.proofs.lemmas.List.{drop-map, drop_more}

module _ {X : Type 0} (f : X → List ℕ) (words : List X) (i : ℕ) (d : X) (fields rest : List (List ℕ))
    (field : List ℕ) (inside : i < length words) (first : fields ≡ field ∷ rest) where
  -- where the next field is the next word, the others are compared
  pub words_more : bytes_eq field (f (get_or words i d)) ≡ true
      → pointwise bytes_eq fields (drop i (map f words)) ≡ pointwise bytes_eq rest
      (drop (i + 1) (map f words))
  words_more same = grind (arith, drop-map, drop_more)

  -- where it is not, they differ
  pub words_differ : bytes_eq field (f (get_or words i d)) ≡ false
      → pointwise bytes_eq fields (drop i (map f words)) ≡ false
  words_differ other = rw (first, drop-map f i words, drop_more words i d inside, other) refl
