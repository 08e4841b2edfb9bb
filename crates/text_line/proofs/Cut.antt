-- The first piece of a text, and a piece without its carriage return.
use Rattle.std.proofs.Common.{◌≡◌, ◌≢◌, ℕ, zero, suc, ◌+◌, ◌<◌, eqb, List, [], ◌∷◌, length, get_or, take}
use Rattle.std.proofs.Common.{drop, refl, ap, arith}
use Rattle.std.specs.List.{onto_first}
use Rattle.std.proofs.lemmas.Bool.{false_from_ne_true, ne_eqb, eq-eqb}
use Rattle.memchr.specs.Find.{Nowhere, Passes, is_byte}
use Rattle.text_line.specs.Lines.{pieces_of, without_cr}

-- a text with a line feed is cut at the first one
pub pieces_of_cut : (text : List ℕ) (end : ℕ) → Nowhere (Passes (is_byte 10) text) 0 end → end < length text
    → Passes (is_byte 10) text end → pieces_of text ≡ take end text ∷ pieces_of (drop (end + 1) text)
pieces_of_cut [] end before inside at = absurd (omega arith)
pieces_of_cut (b ∷ bytes) zero before inside at = rw at refl
pieces_of_cut (b ∷ bytes) (suc end) before inside at =
    let none = false_from_ne_true (eqb b 10) (before 0 (omega arith) (omega arith)) in
    let later =
    pieces_of_cut bytes end (λ k low lt. before (suc k) (omega arith) (omega arith)) (omega arith) at in
    let next : suc end + 1 ≡ suc (end + 1) = omega arith in
    rw (none, later, next) refl

-- one without is one piece
pub pieces_of_one : (text : List ℕ) → Nowhere (Passes (is_byte 10) text) 0 (length text) → 0 < length text
    → pieces_of text ≡ text ∷ []
pieces_of_one [] before some = absurd (omega arith)
pieces_of_one (b ∷ []) before some =
    rw (false_from_ne_true (eqb b 10) (before 0 (omega arith) (omega arith))) refl
pieces_of_one (b ∷ c ∷ bytes) before some =
    let none = false_from_ne_true (eqb b 10) (before 0 (omega arith) (omega arith)) in
    let later =
    pieces_of_one (c ∷ bytes) (λ k low lt. before (suc k) (omega arith) (omega arith)) (omega arith) in
    rw none (ap (onto_first b) later)

-- a carriage return at the end is dropped
pub without_cr_cut : (piece : List ℕ) (last : ℕ) → length piece ≡ suc last → get_or piece last 0 ≡ 13
    → without_cr piece ≡ take last piece
without_cr_cut [] last len at = absurd (omega arith)
without_cr_cut (b ∷ []) zero len at = rw (eq-eqb b 13 at) refl
without_cr_cut (b ∷ []) (suc last) len at = absurd (omega arith)
without_cr_cut (b ∷ c ∷ bytes) zero len at = absurd (omega arith)
without_cr_cut (b ∷ c ∷ bytes) (suc last) len at =
    ap (λ (rest : List ℕ). b ∷ rest) (without_cr_cut (c ∷ bytes) last (omega arith) at)

-- what does not end in one stays
pub without_cr_same : (piece : List ℕ) (last : ℕ) → length piece ≡ suc last → get_or piece last 0 ≢ 13
    → without_cr piece ≡ piece
without_cr_same [] last len other = refl
without_cr_same (b ∷ []) zero len other = rw (ne_eqb b 13 other) refl
without_cr_same (b ∷ []) (suc last) len other = absurd (omega arith)
without_cr_same (b ∷ c ∷ bytes) zero len other = absurd (omega arith)
without_cr_same (b ∷ c ∷ bytes) (suc last) len other =
    ap (λ (rest : List ℕ). b ∷ rest) (without_cr_same (c ∷ bytes) last (omega arith) other)
