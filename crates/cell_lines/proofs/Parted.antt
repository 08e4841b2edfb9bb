-- The words of a text that one byte parts, and the number that the first of them spells, byte by byte.
use Rattle.std.proofs.Common.{◌≡◌, ℕ, suc, ◌+◌, ◌*◌, ◌-◌, ◌^◌, ◌<◌, ◌≤◌, ◌==◌, arith, refl, ap, sym, ◌∙◌}
use Rattle.std.proofs.Common.{Bool, true, false, not, ◌||◌, List, [], ◌∷◌, ◌++◌, length, append_assoc, inl}
use Rattle.std.proofs.Common.{inr, get_or, take, drop}
use Rattle.std.specs.Prelude.{Option, Some, None, nat_eq, if◌then◌else◌}
use Rattle.std.specs.Borrow.{Bor}
use Rattle.std.specs.Char.{is_ascii_digit}
use Rattle.std.specs.List.{list_all}
use Rattle.std.proofs.Math.Nat.{pow-le-pow_right}
use Rattle.std.proofs.lemmas.Bool.{and_parts, cases_Bool}
use Rattle.std.proofs.lemmas.Bool.Decides.{nat_tests}
use Rattle.std.proofs.lemmas.List.{append-nil, drop_all, length-append, length-drop, take_all}
use Rattle.std.proofs.Math.Seq.{drop-cons}
use Rattle.std.proofs.lemmas.List.Folds.{list_all-append}
use Rattle.text_line.specs.Numbers.{is_number, value_of}
use Rattle.text_line.proofs.Digits.{after_append, digit_value_is}
use Rattle.cell_lines.specs.Parts.{first_number, first_two, parts, parts_behind, two_numbers}

-- a text has a first word
pub record HasFirst (byte : ℕ) (text : List ℕ) : Type 0 where
  pub word : List ℕ
  pub words : List (List ℕ)
  pub are : parts byte text ≡ word ∷ words

pub has_first : (byte : ℕ) (text : List ℕ) → HasFirst byte text
has_first byte [] = record { word = []; words = []; are = refl }
has_first byte (b ∷ text) = elim (cases_Bool (b == byte)) [
  | inl cut ↦ record { word = []; words = parts byte text; are = rw cut refl }
  | inr on ↦
      let later = has_first byte text in
      record { word = b ∷ later.word; words = later.words; are = rw (on, later.are) refl }
]

-- bytes at which a text is not cut stand before its first word
pub bytes_before : (byte : ℕ) (p : ℕ → Bool) → ((b : ℕ) → p b ≡ true → (b == byte) ≡ false)
    → (bytes text word : List ℕ) (words : List (List ℕ)) → list_all p bytes ≡ true
    → parts byte text ≡ word ∷ words → parts byte (bytes ++ text) ≡ (bytes ++ word) ∷ words
bytes_before byte p other [] text word words all are = are
bytes_before byte p other (b ∷ bytes) text word words all are =
    let each = and_parts (p b) (list_all p bytes) all in
    rw (other b each.0, bytes_before byte p other bytes text word words each.1 are) refl

-- the number that the first word spells behind so many digits of this value
abbrev pub read_on : ℕ → ℕ → ℕ → ℕ → List ℕ → Option (ℕ × List (List ℕ))
read_on byte most count value [] = if nat_eq count 0 then None else Some (value, [])
read_on byte most count value (b ∷ text) =
    if b == byte then (if nat_eq count 0 then None else Some (value, parts byte text))
    else if nat_eq count most || not (is_ascii_digit b) then None
    else read_on byte most (count + 1) (value * 10 + (b - 48)) text

module _ (byte most : ℕ) (other : is_ascii_digit byte ≡ false) where
  not_byte : (b : ℕ) → is_ascii_digit b ≡ true → (b == byte) ≡ false
  not_byte b digit = grind (arith, nat_tests)

  before : (digits text word : List ℕ) (words : List (List ℕ)) → list_all is_ascii_digit digits ≡ true
      → parts byte text ≡ word ∷ words → parts byte (digits ++ text) ≡ (digits ++ word) ∷ words
  before = bytes_before byte is_ascii_digit not_byte

  -- a word that goes on behind digits, where there are enough, or by another byte
  no_number : (digits : List ℕ) (b : ℕ) (word : List ℕ)
      → (nat_eq (length digits) most || not (is_ascii_digit b)) ≡ true
      → is_number most (digits ++ b ∷ word) ≡ false
  no_number digits b word stops = grind (arith, nat_tests, length-append, list_all-append, cases_Bool)

  is_read : (digits text : List ℕ) → list_all is_ascii_digit digits ≡ true → length digits ≤ most
      → read_on byte most (length digits) (value_of digits) text
      ≡ first_number most (parts byte (digits ++ text))
  is_read digits [] all few =
      rw (before digits [] [] [] all refl, append-nil digits) (grind (arith, nat_tests))
  is_read digits (b ∷ text) all few =
      by_byte (λ more all few. is_read more text all few) (b == byte) refl
      (nat_eq (length digits) most || not (is_ascii_digit b)) refl
    where
      by_byte : ((more : List ℕ) → list_all is_ascii_digit more ≡ true → length more ≤ most
          → read_on byte most (length more) (value_of more) text
          ≡ first_number most (parts byte (more ++ text)))
          → (cut : Bool) → (b == byte) ≡ cut → (stops : Bool)
          → (nat_eq (length digits) most || not (is_ascii_digit b)) ≡ stops
          → read_on byte most (length digits) (value_of digits) (b ∷ text)
          ≡ first_number most (parts byte (digits ++ b ∷ text))
      by_byte on true e stops f =
          let are : parts byte (b ∷ text) ≡ [] ∷ parts byte text = rw e refl in
          rw (e, before digits (b ∷ text) [] (parts byte text) all are, append-nil digits)
          (grind (arith, nat_tests))
      by_byte on false e true f =
          let later = has_first byte text in
          let are : parts byte (b ∷ text) ≡ (b ∷ later.word) ∷ later.words = rw (e, later.are) refl in
          rw (
            e,
            f,
            before digits (b ∷ text) (b ∷ later.word) later.words all are,
            no_number digits b later.word f,
          ) refl
      by_byte on false e false f =
          let digit : is_ascii_digit b ≡ true = grind (arith, nat_tests) in
          let more = on (digits ++ b ∷ [])
          (rw (list_all-append is_ascii_digit digits (b ∷ []), all, digit) refl)
          (grind (arith, nat_tests, length-append)) in
          let long : length (digits ++ b ∷ []) ≡ length digits + 1 =
          omega (arith, length-append digits (b ∷ [])) in
          let value : value_of (digits ++ b ∷ []) ≡ value_of digits * 10 + (b - 48) =
          after_append 0 digits (b ∷ [])
          ∙ ap (λ (d : ℕ). value_of digits * 10 + d) (digit_value_is b digit) in
          rw (e, f)
          (ap (λ (n : ℕ). read_on byte most n (value_of digits * 10 + (b - 48)) text) (sym long)
          ∙ ap (λ (n : ℕ). read_on byte most (length (digits ++ b ∷ [])) n text) (sym value)
          ∙ more ∙ ap (λ (l : List ℕ). first_number most (parts byte l)) (append_assoc digits (b ∷ []) text))

  number_read : (text : List ℕ) → read_on byte most 0 0 text ≡ first_number most (parts byte text)
  number_read text = is_read [] text refl (omega arith)

-- what is read of a text, where so many digits of it have this value
module _ (byte most : ℕ) (other : is_ascii_digit byte ≡ false) (text : List ℕ) (count value : ℕ)
    (so_far : read_on byte most 0 0 text ≡ read_on byte most count value (drop count text)) where
  left : (more : List ℕ) → drop count text ≡ more
      → first_number most (parts byte text) ≡ read_on byte most count value more
  left more is =
      sym (number_read byte most other text) ∙ so_far
      ∙ ap (λ (l : List ℕ). read_on byte most count value l) is

  -- at the end
  pub at_end : length text ≤ count → (count ≡ 0 → ⊥)
      → first_number most (parts byte text) ≡ Some (value, [])
  at_end past some =
      let none : nat_eq count 0 ≡ false = grind (arith, nat_tests) in
      left [] (drop_all count text past) ∙ rw none refl

  module _ (inside : count < length text) where
    next : drop count text ≡ get_or text count 0 ∷ drop (suc count) text
    next = drop-cons text count 0 inside

    -- at a byte that cuts
    pub at_cut : get_or text count 0 ≡ byte → (count ≡ 0 → ⊥)
        → first_number most (parts byte text)
        ≡ Some (value, parts byte (take (length text - (count + 1)) (drop (count + 1) text)))
    at_cut is some =
        let none : nat_eq count 0 ≡ false = grind (arith, nat_tests) in
        let same : (get_or text count 0 == byte) ≡ true = grind (arith, nat_tests) in
        let rest : take (length text - (count + 1)) (drop (count + 1) text) ≡ drop (suc count) text =
        take_all (length text - (count + 1)) (drop (count + 1) text)
        (omega (arith, length-drop (count + 1) text))
        ∙ ap (λ (n : ℕ). drop n text) (let e : count + 1 ≡ suc count = omega arith in e) in
        left (get_or text count 0 ∷ drop (suc count) text) next ∙ rw (same, none, rest) refl

    -- at a digit too many
    pub at_most : (get_or text count 0 ≡ byte → ⊥) → count ≡ most
        → first_number most (parts byte text) ≡ None
    at_most differs full =
        let off : (get_or text count 0 == byte) ≡ false = grind (arith, nat_tests) in
        let stop : nat_eq count most ≡ true = grind (arith, nat_tests) in
        left (get_or text count 0 ∷ drop (suc count) text) next ∙ rw (off, stop) refl

    -- at another byte
    pub at_other : (get_or text count 0 ≡ byte → ⊥) → is_ascii_digit (get_or text count 0) ≡ false
        → first_number most (parts byte text) ≡ None
    at_other differs letter = grind (arith, nat_tests, left, next)

-- a value of so many digits
pub value_low : (most count value : ℕ) → value < 10 ^ count → count ≤ most → value < 10 ^ most
value_low most count value small few =
    let most : 10 ^ count ≤ 10 ^ most = pow-le-pow_right (omega arith) few in omega arith

-- behind two numbers more words stand
pub more_words : (byte most : ℕ) (text : List ℕ) (two : ℕ × ℕ) (rest : Option (Bor (List ℕ)))
    (more : Bor (List ℕ)) → first_two most (parts byte text) ≡ Some (two, parts_behind byte rest)
    → rest ≡ Some more → None ≡ two_numbers most (parts byte text)
more_words byte most text two rest more is there =
    let first = has_first byte more.now in rw (is, there, first.are) refl
