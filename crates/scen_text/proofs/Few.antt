-- A text has no more entries than bytes.
use Rattle.std.proofs.lemmas.Bool.Decides.{nat_tests}
use Rattle.std.proofs.Common.{◌≡◌, ℕ, suc, ◌+◌, ◌^◌, ◌≤◌, List, [], ◌∷◌, length, Result, sym, ap}
use Rattle.std.proofs.Common.{subst, inl, inr, arith}
use Rattle.std.specs.Prelude.{IfOk, Vec}
use Rattle.std.specs.declared.alloc.Global.{Global}
use Rattle.text_line.specs.Lines.{pieces_of}
use Rattle.text_line.specs.Places.{LineAt, lines_at, lines_from, room_of}
use Rattle.text_line.specs.Reading.{SpellInOrder}
use Rattle.text_line.proofs.Placing.{room_of_pieces}
use Rattle.scen_text.specs.declared.fault.ScenFault.{ScenFault}
use Rattle.scen_text.specs.declared.entry.Entry.{Entry}
use Rattle.scen_text.specs.Spelling.{IsBlank, IsEntry, Spells}

-- there are as many lines as pieces, each of which takes a byte at least
lines_few : (number place : ℕ) (pieces : List (List ℕ)) → length (lines_from number place pieces)
    ≤ room_of pieces
lines_few number place [] = omega arith
lines_few number place (piece ∷ pieces) =
    omega (arith, lines_few (number + 1) (place + length piece + 1) pieces)

-- and no more entries than lines
spelled_few : (lines : List LineAt) (entries : List Entry) → SpellInOrder IsBlank IsEntry lines entries
    → length entries ≤ length lines
spelled_few [] entries none =
    subst (λ (es : List Entry). length es ≤ 0) (sym none) (omega arith)
spelled_few (line ∷ lines) entries spelled =
    elim spelled [
      | inl blank ↦ omega (arith, spelled_few lines entries blank.1)
      | inr first ↦
          subst (λ (es : List Entry). length es ≤ length (line ∷ lines)) (sym first.are)
          (omega (arith, spelled_few lines first.others first.later))
    ]

few_spelled : (text : List ℕ) (entries : List Entry) → Spells text entries → length entries ≤ length text
few_spelled text entries spells =
    let few : length entries ≤ length spells.others = spelled_few spells.others entries spells.spelled in
    let all : length (lines_at text) ≡ suc (length spells.others) =
    ap (λ (lines : List LineAt). length lines) spells.are in
    omega (arith, lines_few 1 0 (pieces_of text), room_of_pieces text)

-- so an answer tells so many at most
pub answer_few : (text : List ℕ) (answer : Result (Vec Entry Global) ScenFault) → length text ≤ 2 ^ 26
    → IfOk answer (λ read. Spells text read.items) → IfOk answer (λ read. length read.items ≤ 2 ^ 26)
answer_few text answer h i = grind (arith, nat_tests, few_spelled)
