-- Walks that a text of at most 2^30 bytes tells have fewer than 2^30 points.
use Rattle.std.proofs.Common.{◌≡◌, ℕ, zero, suc, ◌+◌, ◌*◌, ◌^◌, ◌≤◌, arith, sym, subst, List, [], ◌∷◌, length}
use Rattle.std.proofs.Common.{inl, inr}
use Rattle.std.specs.Prelude.{Some, Result, Ok, Err, IfOk, Vec, slice_get, filter, map}
use Rattle.std.specs.declared.alloc.Global.{Global}
use Rattle.std.specs.List.{slice_split}
use Rattle.std.proofs.lemmas.Bool.{cases_Bool}
use Rattle.text_line.specs.Fields.{fields_of, is_blank_byte, is_something}
use Rattle.text_line.specs.Lines.{pieces_of, without_cr}
use Rattle.text_line.specs.Places.{room_of}
use Rattle.text_line.specs.Reading.{SpellInOrder}
use Rattle.text_line.proofs.Placing.{length-without_cr, room_of_pieces, room_onto}
use Rattle.walk_judge.specs.declared.fault.WalkFault.{WalkFault}
use Rattle.walk_judge.specs.declared.claims.Claimed.{Claimed}
use Rattle.walk_judge.specs.declared.claims.Claimed.TheVariants as claimed
use Rattle.walk_judge.specs.Claims.{IsFit}
use Rattle.walk_judge.specs.Walks.{IsBlank, IsLineOf, Spells}
use Rattle.walk_judge.proofs.Fields.{as_many}

-- each field takes a byte and a blank
filled_room : (pieces : List (List ℕ)) → 2 * length (filter is_something pieces) ≤ room_of pieces
filled_room [] = omega arith
filled_room ([] ∷ pieces) = omega (arith, filled_room pieces)
filled_room ((b ∷ piece) ∷ pieces) = omega (arith, filled_room pieces)

split_room : (line : List ℕ) → room_of (slice_split is_blank_byte line) ≤ length line + 1
split_room [] = omega arith
split_room (b ∷ line) =
    elim (cases_Bool (is_blank_byte b)) [
      | inl blank ↦ rw blank (omega (arith, split_room line))
      | inr other ↦ rw other (room_onto b (length line) (slice_split is_blank_byte line) (split_room line))
    ]

few_fields : (line : List ℕ) → 2 * length (fields_of line) ≤ length line + 1
few_fields line = omega (arith, filled_room (slice_split is_blank_byte line), split_room line)

line_fit : (line : List ℕ) (what : Claimed) → length line ≤ 2 ^ 30 → IsLineOf line what → IsFit what
line_fit line claimed.None short is = tt
line_fit line (claimed.Walk points) short is =
    (is.0, omega (arith, few_fields line, as_many (fields_of line) points is.1))

-- each walk is fit
abbrev pub AllFit : List Claimed → Type 0
AllFit walks = (k : ℕ) (what : Claimed) → slice_get walks k ≡ Some what → IsFit what

none_fit : AllFit []
none_fit zero what found = absurd (cc)
none_fit (suc k) what found = absurd (cc)

one_more_fit : (first : Claimed) (later : List Claimed) → IsFit first → AllFit later → AllFit (first ∷ later)
one_more_fit first later here there zero what found =
    let same : first ≡ what = cc in subst (λ (w : Claimed). IsFit w) same here
one_more_fit first later here there (suc k) what found = there k what found

spelled_fit : (pieces : List (List ℕ)) (walks : List Claimed) → room_of pieces ≤ 2 ^ 30 + 1
    → SpellInOrder IsBlank IsLineOf (map without_cr pieces) walks → AllFit walks
spelled_fit [] walks room none = subst AllFit (sym none) none_fit
spelled_fit (piece ∷ pieces) walks room spelled =
    elim spelled [
      | inl blank ↦ spelled_fit pieces walks (omega arith) blank.1
      | inr first ↦
          let short : length (without_cr piece) ≤ 2 ^ 30 = omega (arith, length-without_cr piece) in
          subst AllFit (sym first.are) (one_more_fit first.first first.others
          (line_fit (without_cr piece) first.first short first.spelled)
          (spelled_fit pieces first.others (omega arith) first.later))
    ]

-- so are those of an answer that tells what is spelled
pub answer_fit : (text : List ℕ) (entries : ℕ) (answer : Result (Vec Claimed Global) WalkFault)
    → length text ≤ 2 ^ 30
    → IfOk answer (λ read. Spells text entries read.items)
    → IfOk answer (λ read. (k : ℕ) (what : Claimed) → slice_get read.items k ≡ Some what → IsFit what)
answer_fit text entries (Ok read) short spells =
    spelled_fit (pieces_of text) read.items (omega (arith, room_of_pieces text)) spells.spelled
answer_fit text entries (Err fault) short none = tt
