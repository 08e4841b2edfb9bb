-- A field that is written letter by letter.
use Rattle.std.proofs.Common.{◌≡◌, ℕ, ◌+◌, List, [], ◌∷◌, ◌++◌, append_assoc, map, ap, sym, ◌∙◌, arith}
use Rattle.std.specs.Prelude.{flat_map, OnErr, Result, Ok, Err}
use Rattle.std.specs.List.{range_with_len}
use Rattle.std.proofs.lemmas.Grind.{flat_map-append}
use Rattle.std.proofs.lemmas.List.{append-nil, map-id}
use Rattle.std.proofs.lemmas.List.FromFn.{map-range_with_len_more}
use Rattle.grid_moves.specs.declared.Cell.{Cell}
use Rattle.grid_moves.specs.Grid.{GridData}
use Rattle.text_line.specs.Writing.{Begins}
use Rattle.text_line.proofs.Begun.{begins_then}
use Rattle.move_field.specs.Field.{field_letter, field_text, row_line}

-- the letters of the first cells of a row
abbrev pub letters_to : GridData → Cell → ℕ → ℕ → List ℕ
letters_to g t y n = map (λ x. field_letter g t (record { x = x; y = y })) (range_with_len 0 n)

-- the lines of the first rows
abbrev pub lines_to : GridData → Cell → ℕ → List ℕ
lines_to g t n = flat_map (row_line g t) (range_with_len 0 n)

pub letters-more : (g : GridData) (t : Cell) (y n letter : ℕ) (old out new : List ℕ)
    → out ≡ old ++ letters_to g t y n → new ≡ out ++ letter ∷ []
    → letter ≡ field_letter g t (record { x = n; y = y }) → new ≡ old ++ letters_to g t y (n + 1)
letters-more g t y n letter old out new so_far added is =
    added ∙ ap (λ (l : List ℕ). l ++ letter ∷ []) so_far
    ∙ append_assoc old (letters_to g t y n) (letter ∷ [])
    ∙ ap (λ (l : List ℕ). old ++ l)
    (ap (λ k. letters_to g t y n ++ k ∷ []) is
    ∙ sym (map-range_with_len_more (λ x. field_letter g t (record { x = x; y = y })) 0 n n (omega arith)))

number-next : (n : ℕ) → range_with_len 0 (n + 1) ≡ range_with_len 0 n ++ n ∷ []
number-next n =
    sym (map-id (range_with_len 0 (n + 1))) ∙ map-range_with_len_more (λ (k : ℕ). k) 0 n n (omega arith)
    ∙ ap (λ (l : List ℕ). l ++ n ∷ []) (map-id (range_with_len 0 n))

pub lines-more : (g : GridData) (t : Cell) (n : ℕ) (old out new : List ℕ) → out ≡ old ++ lines_to g t n
    → new ≡ out ++ row_line g t n → new ≡ old ++ lines_to g t (n + 1)
lines-more g t n old out new so_far added =
    added ∙ ap (λ (l : List ℕ). l ++ row_line g t n) so_far
    ∙ append_assoc old (lines_to g t n) (row_line g t n)
    ∙ ap (λ (l : List ℕ). old ++ l)
    (ap (λ (l : List ℕ). lines_to g t n ++ l) (sym (append-nil (row_line g t n)))
    ∙ sym (flat_map-append (row_line g t) (range_with_len 0 n) (n ∷ []))
    ∙ ap (flat_map (row_line g t)) (sym (number-next n)))

-- what is written so far begins with what stood there before
pub so-far : (old more out new : List ℕ) → out ≡ old ++ more → new ≡ out → Begins old new
so-far old more out new is same = (more, same ∙ is)

pub so-far-begun : (old more out new : List ℕ) → out ≡ old ++ more → Begins out new → Begins old new
so-far-begun old more out new is begins = begins_then old out new (more, is) begins

-- a clause on failures, where it always holds
pub on_err : {T E Q : Type 0} (result : Result T E) → Q → OnErr result Q
on_err (Ok v) q = tt
on_err (Err e) q = q

-- the lines of all rows are the field
pub lines-all : (g : GridData) (t : Cell) (n : ℕ) (old out : List ℕ) → n ≡ g.height
    → out ≡ old ++ lines_to g t n → out ≡ old ++ field_text g t
unfolding field_text
lines-all g t n old out all so_far = so_far ∙ ap (λ (k : ℕ). old ++ lines_to g t k) all
