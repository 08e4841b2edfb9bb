-- The entries of a file by their places.
use Rattle.std.proofs.Common.{◌≡◌, ℕ, zero, suc, ◌+◌, ◌*◌, ◌<◌, List, [], ◌∷◌, ◌++◌, length, refl, ap, sym}
use Rattle.std.proofs.Common.{◌∙◌, subst, arith, zero-add}
use Rattle.std.specs.Prelude.{pos, ◌/◌, ◌%◌, true, map, drop, slice_index_or, if◌then◌else◌}
use Rattle.std.proofs.lemmas.List.{drop_more, drop_all, length-append}
use Rattle.std.proofs.lemmas.Bool.Decides.{nat_tests}
use Rattle.grid_moves.specs.declared.Dir.TheVariants.{N}
use Rattle.grid_moves.specs.declared.Ground.{Ground}
use Rattle.grid_moves.specs.declared.Ground.TheVariants.{Water}
use Rattle.grid_moves.specs.Grid.{GridData, cell_numbered, is_ground, is_inside}
use Rattle.grid_moves.specs.Move.{all_dirs}
use Rattle.plus_tables.specs.Entry.{table_entry}
use Rattle.plus_tables.specs.Tables.{TablesData, AreTablesOf, IsWhole, entry_place}
use Rattle.table_file.specs.Encoding.{entry_for}
use Rattle.table_file.specs.Order.{cells_from, spots_at, spots_on}
use Rattle.table_file.specs.Reading.{spot_of}

-- the list is what a function of the place tells, from a place on
abbrev pub AreNumbered : {A : Type 0} → (ℕ → A) → ℕ → List A → Type 0
AreNumbered tell place [] = Unit {0}
AreNumbered tell place (a ∷ list) = (a ≡ tell place) × AreNumbered tell (place + 1) list

numbered-append : {A : Type 0} (tell : ℕ → A) (place : ℕ) (xs ys : List A) → AreNumbered tell place xs
    → AreNumbered tell (place + length xs) ys → AreNumbered tell place (xs ++ ys)
numbered-append tell place [] ys first second =
    let same : place + 0 ≡ place = omega arith in subst (λ (n : ℕ). AreNumbered tell n ys) same second
numbered-append tell place (x ∷ xs) ys first second =
    let same : place + suc (length xs) ≡ place + 1 + length xs = omega arith in (
      first.0,
      numbered-append tell (place + 1) xs ys first.1 (subst (λ (n : ℕ). AreNumbered tell n ys) same
          second),
    )

spots_at-numbered : (layer : Ground) (width n place : ℕ) → place ≡ n * 8
    → AreNumbered (spot_of layer width) place (spots_at layer (cell_numbered width n))
spots_at-numbered layer width n place is = grind (arith, nat_tests)

pub spots-numbered : (layer : Ground) (width n place count : ℕ) → place ≡ n * 8
    → AreNumbered (spot_of layer width) place (spots_on layer (cells_from width n count))
spots-numbered layer width n place zero is = tt
spots-numbered layer width n place (suc count) is =
    numbered-append (spot_of layer width) place (spots_at layer (cell_numbered width n))
    (spots_on layer (cells_from width (n + 1) count)) (spots_at-numbered layer width n place is)
    (spots-numbered layer width (n + 1) (place + 8) count (omega arith))

pub length-spots : (layer : Ground) (width n count : ℕ)
    → length (spots_on layer (cells_from width n count)) ≡ count * 8
length-spots layer width n zero = refl
length-spots layer width n (suc count) =
    length-append (spots_at layer (cell_numbered width n)) (spots_on layer (cells_from width (n + 1) count))
    ∙ (let others = length-spots layer width (n + 1) count in omega arith)

-- a list whose elements follow from what stands at their places in the other list is its image
pub listed : {A B : Type 0} → (tell : ℕ → A) (f : A → B) (d : B) (list : List B) (place : ℕ) (spots : List A)
    → AreNumbered tell place spots → place + length spots ≡ length list
    → ((k : ℕ) → k < length list → slice_index_or list k d ≡ f (tell k)) → drop place list ≡ map f spots
listed {B = B} tell f d list place [] numbered all stands = drop_all place list (omega arith)
listed {B = B} tell f d list place (s ∷ spots) numbered all stands =
    let inside : place < length list = omega arith in
    drop_more list place d inside
    ∙ ap (λ (b : B). b ∷ drop (place + 1) list) (stands place inside ∙ ap f (sym numbered.0))
    ∙ ap (λ (bs : List B). f s ∷ bs) (listed tell f d list (place + 1) spots numbered.1 (omega arith) stands)

place_back : (width place : ℕ)
    → entry_place width (cell_numbered width (place / 8)) (slice_index_or all_dirs (place % 8) N) ≡ place
place_back width place = grind (arith, nat_tests)

number_inside : (place cells : ℕ) → place < cells * 8 → place / 8 < cells
number_inside place cells below = omega arith

inside_of : (g : GridData) (number : ℕ) → 0 < g.width → number < g.height * g.width
    → is_inside g (cell_numbered g.width number) ≡ true
inside_of g number some below = grind (arith, nat_tests)

entry_there : (t : TablesData) (g : GridData) → AreTablesOf t g → (layer : Ground) (place : ℕ)
    → place < g.height * g.width * 8 → slice_index_or t.entries place (pos 0)
    ≡ table_entry g (spot_of layer g.width place).cell (spot_of layer g.width place).dir
entry_there t g are layer place below = grind (arith, nat_tests, inside_of, number_inside, place_back)

-- there are eight for each cell
pub length-entries : (t : TablesData) (g : GridData) → AreTablesOf t g → IsWhole t
    → length t.entries ≡ g.height * g.width * 8
length-entries t g are whole = grind (arith, nat_tests)

-- the entries of the tables of one of a map's grids, in the order of a file
pub entries_listed : (land water g : GridData) (t : TablesData) (layer : Ground)
    → g ≡ (if is_ground Water layer then water else land) → AreTablesOf t g → IsWhole t
    → t.entries ≡ map (entry_for land water) (spots_on layer (cells_from g.width 0 (g.height * g.width)))
entries_listed land water g t layer is are whole =
    let long = length-entries t g are whole in
    listed (spot_of layer g.width) (entry_for land water) (pos 0) t.entries 0
    (spots_on layer (cells_from g.width 0 (g.height * g.width)))
    (spots-numbered layer g.width 0 0 (g.height * g.width) refl)
    (zero-add (length (spots_on layer (cells_from g.width 0 (g.height * g.width))))
    ∙ length-spots layer g.width 0 (g.height * g.width) ∙ sym long)
    (λ k below. entry_there t g are layer k (subst (λ (n : ℕ). k < n) long below)
    ∙ ap (λ (h : GridData). table_entry h (spot_of layer g.width k).cell (spot_of layer g.width k).dir) is)
