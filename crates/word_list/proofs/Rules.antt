-- Where accepted lists stop, and that a list has one bad word.
use Rattle.std.proofs.lemmas.Bool.Decides.{nat_tests}
use Rattle.std.proofs.Common.{◌≡◌, ℕ, suc, ◌<◌, ◌≤◌, Bool, List, [], ◌∷◌, ◌++◌, length, take, drop, sym, ap}
use Rattle.std.proofs.Common.{◌∙◌, append_assoc, arith}
use Rattle.std.proofs.lemmas.List.{take-append-drop, take-take}
use Rattle.word_list.specs.Rule.{Begins, EndsAfter, StopsAt}

-- no other number is smaller
not_below : (accepts : List (List ℕ) → Bool) (words : List (List ℕ)) (one other : ℕ)
    → StopsAt accepts words one → StopsAt accepts words other → one < other → ⊥
not_below accepts words one other is also below = grind (arith, nat_tests)

pub one_stop : (accepts : List (List ℕ) → Bool) (words : List (List ℕ)) (one other : ℕ)
    → StopsAt accepts words one → StopsAt accepts words other → one ≡ other
one_stop accepts words one other is also = grind (arith, not_below)

module _ (accepts : List (List ℕ) → Bool) where
  -- with fewer words too
  begins_less : (words : List (List ℕ)) (k count : ℕ) → k ≤ count
      → Begins accepts (take count words) → Begins accepts (take k words)
  begins_less words k count below found =
      let joined : take k words ++ drop k (take count words) ≡ take count words =
      ap (λ (front : List (List ℕ)). front ++ drop k (take count words)) (sym (take-take k count words below))
      ∙ take-append-drop k (take count words) in (
        drop k (take count words) ++ found.0,
        ap accepts (sym (append_assoc (take k words) (drop k (take count words)) found.0)
            ∙ ap (λ (front : List (List ℕ)). front ++ found.0) joined) ∙ found.1,
      )

  pub stops_behind : (words : List (List ℕ)) (count : ℕ) → EndsAfter accepts words count
      → StopsAt accepts words (suc count)
  stops_behind words count after = record {
    least = λ k below. begins_less words k count (omega arith) after.begins;
    within = omega (arith, after.within);
    here = λ inside. after.ends (omega arith);
  }

  -- a list whose first word is wrong, or absent
  pub ends_at_once : (words : List (List ℕ)) → Begins accepts []
      → (0 < length words → ¬ Begins accepts (take 1 words)) → EndsAfter accepts words 0
  ends_at_once words some none = record { begins = some; within = omega arith; ends = none }

  -- a list that goes on with another after a word
  pub ends_later : (next : List (List ℕ) → Bool) (word : List ℕ) (words : List (List ℕ)) (count : ℕ)
      → ((more : List (List ℕ)) → accepts (word ∷ more) ≡ next more)
      → EndsAfter next words count → EndsAfter accepts (word ∷ words) (suc count)
  ends_later next word words count h i = grind (arith, nat_tests)
