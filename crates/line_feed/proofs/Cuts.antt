-- Texts to which the bytes of a piece come.
use Rattle.std.proofs.Common.{◌≡◌, ℕ, zero, suc, ◌+◌, ◌<◌, ◌≤◌, List, [], ◌∷◌, ◌++◌, length, take, drop, refl}
use Rattle.std.proofs.Common.{sym, ap, eqb, ◌∙◌, arith, append_assoc}
use Rattle.std.proofs.Math.Seq.{take-length}
use Rattle.std.proofs.lemmas.List.{append-nil}
use Rattle.std.proofs.lemmas.Bool.{false_from_ne_true, eqb-true}
use Rattle.memchr.specs.Find.{Nowhere, Passes, is_byte}
use Rattle.script_text.specs.Feeding.{Cut, cut}
use Rattle.script_text.proofs.Cuts.{cut-more}

-- a text to which nothing came
pub cut-nil : cut [] ≡ record { lines = []; rest = [] }
unfolding cut
cut-nil = refl

-- a cut text with more bytes in its last line
abbrev within : Cut → List ℕ → Cut
within c bytes = record { lines = c.lines; rest = c.rest ++ bytes }

none-within : (text : List ℕ) → cut (text ++ []) ≡ within (cut text) []
none-within text =
    ap cut (append-nil text)
    ∙ ap (λ (l : List ℕ). let c : Cut = record { lines = (cut text).lines; rest = l } in c)
    (sym (append-nil (cut text).rest))

-- bytes that end no line come behind the last line feed
pub cut-within : (text piece : List ℕ) (end : ℕ) → Nowhere (Passes (is_byte 10) piece) 0 end
    → end ≤ length piece → cut (text ++ take end piece) ≡ within (cut text) (take end piece)
cut-within text [] zero before inside = none-within text
cut-within text [] (suc end) before inside = absurd (omega arith)
cut-within text (b ∷ bytes) zero before inside = none-within text
cut-within text (b ∷ bytes) (suc end) before inside =
    let none = false_from_ne_true (eqb b 10) (before 0 (omega arith) (omega arith)) in
    let here : cut (text ++ b ∷ []) ≡ within (cut text) (b ∷ []) = cut-more text b ∙ rw none refl in
    let later = cut-within (text ++ b ∷ []) bytes end (λ k low lt. before (suc k) (omega arith) (omega arith))
    (omega arith) in
    ap cut (sym (append_assoc text (b ∷ []) (take end bytes))) ∙ later
    ∙ ap (λ (c : Cut). within c (take end bytes)) here
    ∙ ap (λ (l : List ℕ). let c : Cut = record { lines = (cut text).lines; rest = l } in c)
    (append_assoc (cut text).rest (b ∷ []) (take end bytes))

-- so does a whole piece that ends none
pub cut-all : (text piece : List ℕ) → Nowhere (Passes (is_byte 10) piece) 0 (length piece)
    → cut (text ++ piece) ≡ within (cut text) piece
cut-all text piece before =
    let e = cut-within text piece (length piece) before (omega arith) in rw take-length at e

-- a line feed behind them ends the line
pub cut-ended : (text piece : List ℕ) (end : ℕ) → Nowhere (Passes (is_byte 10) piece) 0 end
    → end ≤ length piece → cut (text ++ take end piece ++ 10 ∷ [])
    ≡ record { lines = (cut text).lines ++ ((cut text).rest ++ take end piece) ∷ []; rest = [] }
cut-ended text piece end before inside =
    cut-more (text ++ take end piece) 10
    ∙ ap (λ (c : Cut). let d : Cut = record { lines = c.lines ++ c.rest ∷ []; rest = [] } in d)
    (cut-within text piece end before inside)

-- a piece is what stands before its first line feed, and what is behind it
pub parted : (piece : List ℕ) (end : ℕ) → end < length piece → Passes (is_byte 10) piece end
    → piece ≡ take end piece ++ 10 ∷ drop (end + 1) piece
parted [] end inside at = absurd (omega arith)
parted (b ∷ bytes) zero inside at = ap (λ x. x ∷ bytes) (eqb-true b 10 at)
parted (b ∷ bytes) (suc end) inside at =
    let next : suc end + 1 ≡ suc (end + 1) = omega arith in
    rw next (ap (λ (l : List ℕ). b ∷ l) (parted bytes end (omega arith) at))
