-- What a line of the header says.
use Rattle.std.proofs.lemmas.Bool.Decides.{nat_tests}
use Rattle.std.proofs.Common.{◌≡◌, ℕ, ◌≤◌, Bool, true, List, [], ◌∷◌, Option, Some, None, refl, arith}
use Rattle.std.specs.Prelude.{unwrap_or}
use Rattle.std.specs.Str.{bytes_eq}
use Rattle.std.specs.Cmp.Lexicographic.{pointwise}
use Rattle.std.proofs.lemmas.Bool.{cases_Bool, and_from, le-leb}
use Rattle.std.proofs.lemmas.Slice.Eq.{bytes_eq-Decides, slice_eq-Decides}
use Rattle.text_line.specs.Numbers.{number_of}
use Rattle.map_text.specs.Faults.{words_fault, side_in, side_fault}

-- a line with these words has these fields
pub same_words : (fields words : List (List ℕ)) → pointwise bytes_eq fields words ≡ true → fields ≡ words
same_words fields words same = grind (arith, slice_eq-Decides, bytes_eq-Decides)

-- a header line that breaks nothing has its words
pub words_right : (number : ℕ) (right : Bool) → words_fault number right ≡ None → right ≡ true
words_right number right h = grind (arith, nat_tests)

-- a side that breaks nothing is named, and is 1 to 4096
pub record NamesGoodSide (word : List ℕ) (fields : List (List ℕ)) (side : ℕ) : Type 0 where
  pub digits : List ℕ
  pub are : fields ≡ word ∷ digits ∷ []
  pub value : number_of digits ≡ Some side
  pub least : 1 ≤ side
  pub most : side ≤ 4096

good_side : (number : ℕ) (side : Option ℕ) → side_fault number side ≡ None
    → (n : ℕ) × (side ≡ Some n) × (1 ≤ n) × (n ≤ 4096)
good_side number side h = grind (arith, nat_tests)

pub side_right : (number : ℕ) (word : List ℕ) (fields : List (List ℕ))
    → side_fault number (side_in word fields) ≡ None
    → NamesGoodSide word fields (unwrap_or (side_in word fields) 0)
side_right number word fields h = grind (arith, nat_tests, cases_Bool, good_side, bytes_eq-Decides)

-- and the other way round
pub side_named : (word digits : List ℕ) (side : ℕ) → number_of digits ≡ Some side
    → side_in word (word ∷ digits ∷ []) ≡ Some side
side_named word digits side value = rw ((bytes_eq-Decides word word).1 refl) value

pub side_fault_none : (number side : ℕ) → 1 ≤ side → side ≤ 4096 → side_fault number (Some side) ≡ None
side_fault_none number side least most = grind (arith, and_from, le-leb)
