-- Texts written one after the other.
use Rattle.std.proofs.Common.{◌≡◌, ap, sym, ◌∙◌, List, [], ◌∷◌, ◌++◌, append_assoc, ℕ, suc, ◌+◌, ◌<◌, take}
use Rattle.std.proofs.Common.{length, arith, get_or, zero}
use Rattle.std.specs.Prelude.{Result, Ok, Err, OnOk, OnErr, Some, slice_get}
use Rattle.std.proofs.Math.Seq.{take-suc}
use Rattle.std.proofs.lemmas.List.{append-nil}
use Rattle.text_line.specs.Writing.{Begins}
use Rattle.text_line.proofs.Begun.{begins_then}
use Rattle.cell_lines.specs.Cells.{texts_of}

module _ {X : Type 0} (text : X → List ℕ) where
  texts-added : (xs : List X) (x : X) → texts_of text (xs ++ x ∷ []) ≡ texts_of text xs ++ text x
  texts-added [] x = append-nil (text x)
  texts-added (y ∷ xs) x = ap (λ (t : List ℕ). text y ++ t) (texts-added xs x)
      ∙ sym (append_assoc (text y) (texts_of text xs) (text x))

  -- one element more was written behind what stood there
  pub texts-next : (xs : List X) (i : ℕ) (d : X) (before so_far now : List ℕ) → i < length xs
      → so_far ≡ before ++ texts_of text (take i xs) → now ≡ so_far ++ text (get_or xs i d)
      → now ≡ before ++ texts_of text (take (i + 1) xs)
  texts-next xs i d before so_far now h s w =
      w ∙ ap (λ (t : List ℕ). t ++ text (get_or xs i d)) s
      ∙ append_assoc before (texts_of text (take i xs)) (text (get_or xs i d))
      ∙ ap (λ (t : List ℕ). before ++ t) (sym (texts-added (take i xs) (get_or xs i d))
      ∙ ap (λ (l : List X). texts_of text l) (sym (take-suc xs i d h))
      ∙ ap (λ n. texts_of text (take n xs)) (let e : suc i ≡ i + 1 = omega arith in e))

  take-next : (xs : List X) (i : ℕ) (x : X) → slice_get xs i ≡ Some x → take (suc i) xs ≡ take i xs ++ x ∷ []
  take-next [] i x e = absurd (cc)
  take-next (y ∷ xs) zero x e = let same : y ≡ x = cc in ap (λ (z : X). z ∷ []) same
  take-next (y ∷ xs) (suc i) x e = ap (λ (l : List X). y ∷ l) (take-next xs i x e)

  -- the same, of an element that was read at its place
  pub texts-next-at : (xs : List X) (i : ℕ) (x : X) (before so_far now : List ℕ) → slice_get xs i ≡ Some x
      → so_far ≡ before ++ texts_of text (take i xs) → now ≡ so_far ++ text x
      → now ≡ before ++ texts_of text (take (i + 1) xs)
  texts-next-at xs i x before so_far now h s w =
      w ∙ ap (λ (t : List ℕ). t ++ text x) s
      ∙ append_assoc before (texts_of text (take i xs)) (text x)
      ∙ ap (λ (t : List ℕ). before ++ t) (sym (texts-added (take i xs) x)
      ∙ ap (λ (l : List X). texts_of text l) (sym (take-next xs i x h))
      ∙ ap (λ n. texts_of text (take n xs)) (let e : suc i ≡ i + 1 = omega arith in e))

-- two texts one after the other
pub and-then : {T E : Type 0} (result : Result T E) (before mid after first second : List ℕ)
    → mid ≡ before ++ first → OnOk result (after ≡ mid ++ second)
    → OnOk result (after ≡ before ++ (first ++ second))
and-then (Err error) before mid after first second begun w = tt
and-then (Ok done) before mid after first second begun w =
    w ∙ ap (λ (l : List ℕ). l ++ second) begun ∙ append_assoc before first second

-- what begins with a text and more behind it begins with the text
pub begins-on : {T E : Type 0} (result : Result T E) (before mid after text : List ℕ) → mid ≡ before ++ text
    → Begins mid after → OnErr result (Begins before after)
begins-on (Ok done) before mid after text front more = tt
begins-on (Err error) before mid after text front more = begins_then before mid after (text, front) more
