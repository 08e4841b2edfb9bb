-- Lengths that texts spell have few digits.
use Rattle.std.proofs.lemmas.Bool.Decides.{nat_tests}
use Rattle.std.proofs.Common.{◌≡◌, ℕ, ◌+◌, true, ◌&&◌, List, [], ◌∷◌, take, drop, Option}
use Rattle.std.proofs.Common.{Some, None, Result, refl, subst, sym, inl, inr, arith}
use Rattle.std.specs.Prelude.{slice_get, position, IfOk, Vec}
use Rattle.std.specs.List.{list_all}
use Rattle.std.specs.Char.{is_ascii_digit}
use Rattle.std.specs.declared.alloc.Global.{Global}
use Rattle.std.proofs.lemmas.Bool.{cases_Bool, and_parts}
use Rattle.std.proofs.lemmas.List.{length-take}
use Rattle.root2_cost.specs.declared.lengths.Decimal.{Decimal}
use Rattle.text_line.specs.Numbers.{is_number}
use Rattle.text_line.specs.Places.{LineAt}
use Rattle.scen_text.specs.declared.fault.ScenFault.{ScenFault}
use Rattle.scen_text.specs.declared.entry.Entry.{Entry}
use Rattle.scen_text.specs.Lengths.{is_point, decimal_of, length_parted, length_of, IsKept}
use Rattle.text_line.specs.Reading.{SpellInOrder}
use Rattle.scen_text.specs.Spelling.{IsBlank, IsEntry, Spells}
use Rattle.text_line.proofs.Digits.{digits_part, short_number}
use Rattle.scen_text.proofs.Values.{joined-lt}

decimal_kept : (whole decimals : List ℕ) → is_number 8 whole ≡ true
    → list_all is_ascii_digit decimals ≡ true → IsKept (decimal_of whole decimals)
decimal_kept whole decimals front back = grind (arith, short_number, length-take, digits_part, joined-lt)

parted_kept : (word : List ℕ) (point : Option ℕ) (listed : Decimal)
    → length_parted word point ≡ Some listed → IsKept listed
parted_kept word None listed spelled =
    elim (cases_Bool (is_number 8 word)) [
      | inl number ↦
          let same : Some (decimal_of word []) ≡ Some listed = rw number at spelled in
          subst IsKept (cc) (decimal_kept word [] number refl)
      | inr other ↦ absurd (cc (rw other at spelled))
    ]
parted_kept word (Some point) listed spelled =
    let whole = take point word in
    let decimals = drop (point + 1) word in
    elim (cases_Bool (is_number 8 whole && is_number 20 decimals)) [
      | inl numbers ↦
          let parts = and_parts (is_number 8 whole) (is_number 20 decimals) numbers in
          let same : Some (decimal_of whole decimals) ≡ Some listed = rw numbers at spelled in
          subst IsKept (cc) (decimal_kept whole decimals parts.0 (short_number 20 decimals parts.1).1)
      | inr others ↦ absurd (cc (rw others at spelled))
    ]

length_kept : (word : List ℕ) (listed : Decimal) → length_of word ≡ Some listed → IsKept listed
unfolding length_of
length_kept word listed spelled = parted_kept word (position is_point word) listed spelled

-- each entry has such a length
abbrev AllKept : List Entry → Type 0
AllKept entries = (k : ℕ) (entry : Entry) → slice_get entries k ≡ Some entry → IsKept entry.length

none_kept : (k : ℕ) (entry : Entry) → slice_get [] k ≡ Some entry → IsKept entry.length
none_kept k entry h = grind (arith, nat_tests)

one_more_kept : (first : Entry) (later : List Entry) → IsKept first.length → AllKept later
    → (k : ℕ) (entry : Entry) → slice_get (first ∷ later) k ≡ Some entry → IsKept entry.length
one_more_kept first later h i k entry j = grind (arith, nat_tests)

spelled_kept : (lines : List LineAt) (entries : List Entry) → SpellInOrder IsBlank IsEntry lines entries
    → AllKept entries
spelled_kept [] entries none = subst AllKept (sym none) none_kept
spelled_kept (line ∷ lines) entries spelled =
    elim spelled [
      | inl blank ↦ spelled_kept lines entries blank.1
      | inr first ↦
          let is = first.spelled in
          subst AllKept (sym first.are) (one_more_kept first.first first.others
          (length_kept is.words.listed.bytes first.first.length is.listed)
          (spelled_kept lines first.others first.later))
    ]

-- and so has each entry that an answer tells, where the entries are spelled
pub answer_kept : (text : List ℕ) (answer : Result (Vec Entry Global) ScenFault)
    → IfOk answer (λ read. Spells text read.items)
    → IfOk answer (λ read. (k : ℕ) (entry : Entry) → slice_get read.items k ≡ Some entry
    → IsKept entry.length)
answer_kept text answer h = grind (arith, nat_tests, spelled_kept)
