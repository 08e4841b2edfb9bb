-- The rows of all cells.
use Rattle.std.proofs.Common.{◌≡◌, ℕ, zero, suc, ◌+◌, ◌*◌, ◌<◌, arith, refl, ap, sym, ◌∙◌, subst, Bool, true}
use Rattle.std.proofs.Common.{false, inr, List, [], ◌∷◌, ◌++◌, length, get_or, replicate, length-append}
use Rattle.std.specs.Prelude.{Option, None, nat_lt, IfOk, Ok, Err}
use Rattle.std.specs.declared.result.Result.{Result}
use Rattle.std.proofs.lemmas.Bool.Decides.{nat_tests}
use Rattle.std.proofs.lemmas.List.{get_or-replicate, length-replicate}
use Rattle.std.proofs.Math.ListN.{get_or-append}
use Rattle.std.proofs.Math.Seq.{get_or-append_seam}
use Rattle.grid_moves.specs.declared.Cell.{Cell}
use Rattle.grid_moves.specs.declared.Dir.{Dir}
use Rattle.grid_moves.specs.Grid.{GridData, cell_number, is_free, is_inside}
use Rattle.grid_moves.proofs.Legal.{and_both}
use Rattle.grid_moves.proofs.Places.{one_cell, inside_below}
use Rattle.grid_moves.proofs.Short.{walk_free}
use Rattle.cost_waves.specs.Stored.{Tells, WaveData}
use Rattle.first_moves.specs.declared.row.Run.{Run}
use Rattle.first_moves.specs.First.{IsFirstMove}
use Rattle.first_moves.specs.Kept.{AreRows}
use Rattle.first_moves.specs.Row.{IsRow, AreMoves}
use Rattle.first_moves.specs.Runs.{runs_from}

-- of members with no first move only the first one begins a run
none_begins : (k n : ℕ) → runs_from k None (replicate n None) ≡ []
none_begins k zero = refl
none_begins k (suc n) = none_begins (k + 1) n

-- from a blocked cell there is no first move
pub without_moves : (g : GridData) (s : Cell) → is_inside g s ≡ true → is_free g s ≡ false
    → IsRow g s (record { start = 0; first = None } ∷ [])
without_moves g s i blocked = by_count (g.height * g.width) refl
  where
    quiet : (t : Cell) → IsFirstMove g s t None
    quiet t = inr (λ cells w. let free = walk_free g s cells w.legal in absurd (cc))

    by_count : (n : ℕ) → g.height * g.width ≡ n → IsRow g s (record { start = 0; first = None } ∷ [])
    by_count zero e = absurd (let low = inside_below g s i in omega (arith, low))
    by_count (suc n) e = record {
      members = replicate (suc n) None;
      whole = length-replicate (suc n) None ∙ sym e;
      moves = λ t on. subst (λ (o : Option Dir). IsFirstMove g s t o)
          (sym (get_or-replicate (suc n) (cell_number g.width t) None None
          (subst (λ (m : ℕ). cell_number g.width t < m) e (inside_below g t on)))) (quiet t);
      cut = ap (λ (l : List Run). record { start = 0; first = None } ∷ l) (sym (none_begins 1 n));
    }

pub if_without_moves : {E : Type 0} (g : GridData) (s : Cell) (o : Result (List Run) E) → is_inside g s ≡ true
    → is_free g s ≡ false → IfOk o (λ row. row ≡ record { start = 0; first = None } ∷ [])
    → IfOk o (λ row. IsRow g s row)
if_without_moves g s (Ok row) i b e = subst (λ (l : List Run). IsRow g s l) (sym e) (without_moves g s i b)
if_without_moves g s (Err fault) i b e = tt

-- the row that a pass from a cell leaves is the cell's row
pub if_row : {E : Type 0} (g : GridData) (s : Cell) (w : WaveData) (o : Result (List Run) E)
    → w.width ≡ g.width
    → w.height ≡ g.height → Tells g s w
    → IfOk o (λ row. (h : GridData) (u : Cell) → w.width ≡ h.width → w.height ≡ h.height → Tells h u w
    → IsRow h u row)
    → IfOk o (λ row. IsRow g s row)
if_row g s w (Ok row) wide high tells all = all g s wide high tells
if_row g s w (Err fault) wide high tells all = tt

pub count_more : (xs ys : List (List Run)) (r : List Run) (k m : ℕ) → ys ≡ xs ++ (r ∷ []) → length xs ≡ k + m
    → length ys ≡ k + (m + 1)
count_more xs ys r k m e h =
    let more = length-append xs (r ∷ []) in
    let n : length ys ≡ length (xs ++ (r ∷ [])) = ap (λ (l : List (List Run)). length l) e in
    omega (arith, more, n, h)

-- one row more
pub rows_more : (g : GridData) (xs ys : List (List Run)) (r : List Run) (s : Cell) → ys ≡ xs ++ (r ∷ [])
    → length xs ≡ s.y * g.width + s.x → s.x < g.width → AreRows g xs → IsRow g s r → AreRows g ys
rows_more g xs ys r s e n low rows row = subst (λ (l : List (List Run)). AreRows g l) (sym e) more
  where
    more : AreRows g (xs ++ (r ∷ []))
    more c x h = by_test (nat_lt (cell_number g.width c) (length xs)) refl
      where
        by_test : (b : Bool) → nat_lt (cell_number g.width c) (length xs) ≡ b
            → IsRow g c (get_or (xs ++ (r ∷ [])) (cell_number g.width c) [])
        by_test true t =
            let within : cell_number g.width c < length xs = grind (arith, nat_tests) in
            subst (λ (l : List Run). IsRow g c l)
            (sym (get_or-append xs (r ∷ []) [] (cell_number g.width c) within)) (rows c x within)
        by_test false t =
            let more = length-append xs (r ∷ []) in
            let last : cell_number g.width c ≡ length xs = grind (arith, nat_tests) in
            let same : s ≡ c = one_cell g.width s c low x (sym n ∙ sym last) in
            subst (λ (d : Cell). IsRow g d (get_or (xs ++ (r ∷ [])) (cell_number g.width c) [])) same
            (subst (λ (l : List Run). IsRow g s l)
            (sym (ap (λ (k : ℕ). get_or (xs ++ (r ∷ [])) k []) last ∙ get_or-append_seam xs r [] [])) row)

-- the rows of all cells are the first moves
pub are_moves : (g : GridData) (w h : ℕ) (rows : List (List Run)) → w ≡ g.width → h ≡ g.height
    → length rows ≡ g.height * g.width → AreRows g rows
    → AreMoves g (record { width = w; height = h; rows = rows })
are_moves g w h rows wide high whole are = record {
  width = wide;
  height = high;
  rows = λ s i. subst (λ (n : ℕ). IsRow g s (get_or rows (cell_number n s) [])) (sym wide)
      (are s (inside s i) (subst (λ (n : ℕ). cell_number g.width s < n) (sym whole) (inside_below g s i)));
}
  where
    inside : (s : Cell) → is_inside g s ≡ true → s.x < g.width
    inside s i =
        let b = and_both (nat_lt s.x g.width) (nat_lt s.y g.height) i in
        grind (arith, nat_tests)
