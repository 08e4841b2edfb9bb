-- Which word of a refused list is named.
use Rattle.std.specs.Prelude.{◌≡◌, ℕ, suc, ◌+◌, ◌<◌, ◌≤◌, Bool, true, false, List, ◌++◌, length, take}

-- some accepted list begins with the words
abbrev pub Begins : (List (List ℕ) → Bool) → List (List ℕ) → Type 0
Begins accepts words = (more : List (List ℕ)) × (accepts (words ++ more) ≡ true)

-- an accepted list begins with the first words, so many, and none with one more of them
pub record EndsAfter (accepts : List (List ℕ) → Bool) (words : List (List ℕ)) (count : ℕ) : Type 0 where
  pub begins : Begins accepts (take count words)
  pub within : count ≤ length words
  pub ends : count < length words → ¬ Begins accepts (take (suc count) words)

-- the number, from 1, is the least so that no accepted list begins with so many of the words; it is one more
-- than there are words where an accepted list begins with all of them
pub record StopsAt (accepts : List (List ℕ) → Bool) (words : List (List ℕ)) (number : ℕ) : Type 0 where
  pub least : (k : ℕ) → k < number → Begins accepts (take k words)
  pub within : number ≤ length words + 1
  pub here : number ≤ length words → ¬ Begins accepts (take number words)

-- the words are refused, and this is the number of the word that is named
pub record IsBadWord (accepts : List (List ℕ) → Bool) (words : List (List ℕ)) (number : ℕ) : Type 0 where
  pub refused : accepts words ≡ false
  pub stops : StopsAt accepts words number
