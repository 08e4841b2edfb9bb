-- Lines that are laid into rows of entries.
use Rattle.std.proofs.lemmas.Grind.{common_steps}
use Rattle.std.proofs.Common.{◌≡◌, ◌≢◌, ℕ, ◌+◌, ◌-◌, ◌*◌, ◌<◌, ◌≤◌, arith, Bool, true, false, not, ◌||◌, ◌&&◌}
use Rattle.std.proofs.Common.{List, [], ◌∷◌, length, refl, ap, sym, ◌∙◌, subst, get_or-set_same, length-set}
use Rattle.std.proofs.Common.{w16, to_z, of_z}
use Rattle.std.specs.Prelude.{ℤ, pos, nat_lt, nat_le}
use Rattle.std.proofs.lemmas.Bool.Decides.{nat_tests}
use Rattle.grid_moves.specs.declared.Cell.{Cell}
use Rattle.grid_moves.specs.declared.Dir.{Dir}
use Rattle.grid_moves.specs.declared.Dir.TheVariants.{N, NE, E, SE, S, SW, W, NW}
use Rattle.grid_moves.specs.Grid.{GridData, IsGrid, is_inside}
use Rattle.grid_moves.specs.Move.{dir_number, is_dir}
use Rattle.grid_moves.proofs.Places.{number_below}
use Rattle.pruning.proofs.Table.{at_dir, same_dir, by_test}
use Rattle.plus_tables.specs.declared.heading.Heading.{Heading}
use Rattle.plus_tables.specs.declared.heading.Heading.TheVariants.{Upwards, Downwards}
use Rattle.plus_tables.specs.declared.lines.Line.{Line}
use Rattle.plus_tables.specs.Tables.{IsShort, entry_place}
use Rattle.plus_tables.specs.Sweep.{AreRight, is_upward, is_swept, nth_row, swept}
use Rattle.plus_tables.specs.Rows.{number, IsEntryRow}
use Rattle.plus_tables.specs.Lines.{AreAhead, AreAlong}
use Rattle.plus_tables.specs.Laid.{with_entry, with_cell, part, as_tables, rows_there, AreLaid}
use Rattle.plus_tables.specs.Laid.{AreSwept, IsAlongRight, IsRowSwept}
use Rattle.grid_moves.proofs.Dirs.{dir_number-few}
use Rattle.plus_tables.specs.Entry.{table_entry}
use Rattle.plus_tables.proofs.Growing.{number_stays}
use Rattle.plus_tables.proofs.Short.{same_value, table_entry-short}
use Rattle.grid_moves.proofs.Parts.{long_with, read_before, read_within, read_behind, read_part}
use borrow.Rule.Slice.PartMut.{put_mid, mid_of, mid_len}

-- whether a direction is one of these
abbrev among : List Dir → Dir → Bool
among [] e = false
among (d ∷ ds) e = is_dir e d || among ds e

-- entries with those of cell x changed for these directions, the last of them first
abbrev with_dirs : List ℤ → ℕ → (Dir → ℤ) → List Dir → List ℤ
with_dirs row x by_dir [] = row
with_dirs row x by_dir (d ∷ ds) = with_entry (with_dirs row x by_dir ds) x d (by_dir d)

-- the directions of a sweep
abbrev dirs_of : Heading → List Dir
dirs_of Upwards = W ∷ E ∷ NW ∷ NE ∷ N ∷ []
dirs_of Downwards = SW ∷ SE ∷ S ∷ []

dirs_are : (h : Heading) (e : Dir) → is_swept h e ≡ among (dirs_of h) e
dirs_are h e = grind (arith, nat_tests)

itself : (d : Dir) → is_dir d d ≡ true
itself d = at_dir (λ d. is_dir d d) refl d

-- two entries of a row are one only for one direction
same_entry : (k x : ℕ) (d e : Dir) → k * 8 + dir_number e ≡ x * 8 + dir_number d → is_dir e d ≡ true
same_entry k x d e h = grind (arith, nat_tests)

module _ (row : List ℤ) (x : ℕ) (room : x * 8 + 7 < length row) where
  module _ (by_dir : Dir → ℤ) where
    long_dirs : (ds : List Dir) → length (with_dirs row x by_dir ds) ≡ length row
    long_dirs [] = refl
    long_dirs (d ∷ ds) = length-set _ (x * 8 + dir_number d) (by_dir d) ∙ long_dirs ds

    elsewhere : (ds : List Dir) (q : ℕ) → ((d : Dir) → among ds d ≡ true → q ≢ x * 8 + dir_number d)
        → number (with_dirs row x by_dir ds) q ≡ number row q
    elsewhere [] q off = refl
    elsewhere (d ∷ ds) q off = number_stays _ (x * 8 + dir_number d) q (by_dir d) (off d (rw (itself d) refl))
        ∙ elsewhere ds q (λ e m. off e (later_one (is_dir e d) m))
      where
        later_one : (a : Bool) {b : Bool} → b ≡ true → (a || b) ≡ true
        later_one true m = refl
        later_one false m = m

    there : (ds : List Dir) (e : Dir) → among ds e ≡ true
        → number (with_dirs row x by_dir ds) (x * 8 + dir_number e) ≡ by_dir e
    there [] e h = absurd (cc)
    there (d ∷ ds) e h = by_test (is_dir e d)
        (λ s. ap (λ (i : Dir). number (with_dirs row x by_dir (d ∷ ds)) (x * 8 + dir_number i))
        (same_dir e d s)
        ∙ get_or-set_same _ (x * 8 + dir_number d) (by_dir d) (pos 0)
        (let few = dir_number-few d in let long = long_dirs ds in omega (arith, room))
        ∙ ap by_dir (sym (same_dir e d s)))
        (λ s. number_stays _ (x * 8 + dir_number d) (x * 8 + dir_number e) (by_dir d)
        (λ same. absurd (let one = same_entry x x d e same in cc))
        ∙ there ds e (rw s at h))

  -- a number of a row as it is stored
  abbrev stored : List ℤ → ℤ
  stored numbers = to_z w16 (of_z w16 (number numbers (x + 1)))

  -- one cell more is laid down
  module _ (h : Heading) (line : Line) (old : List ℤ) (laid : AreLaid h line x old row) where
    abbrev by_dir : Dir → ℤ
    by_dir d = stored (part h line d)

    laid_dirs : AreLaid h line (x + 1) old (with_dirs row x by_dir (dirs_of h))
    laid_dirs = record {
      long = long_dirs by_dir (dirs_of h) ∙ laid.long;
      entered = λ k e l i short. by_place k e l i short (nat_lt k x) refl;
      others = λ k e off. elsewhere by_dir (dirs_of h) (k * 8 + dir_number e) (λ d m same. absurd (
          let one = same_dir e d (same_entry k x d e same) in
          let here : is_swept h e ≡ true = dirs_are h e ∙ ap (λ (i : Dir). among (dirs_of h) i) one ∙ m in
          cc))
          ∙ laid.others k e off;
    }
      where
        by_place : (k : ℕ) (e : Dir) → k < x + 1 → is_swept h e ≡ true
            → IsShort (number (part h line e) (k + 1))
            → (b : Bool) → nat_lt k x ≡ b
            → number (with_dirs row x by_dir (dirs_of h)) (k * 8 + dir_number e)
            ≡ number (part h line e) (k + 1)
        by_place k e l i short true t = grind (arith, nat_tests, elsewhere, dir_number-few)
        by_place k e l i short false t =
            let same : x ≡ k = grind (arith, nat_tests) in
            ap (λ (n : ℕ). number (with_dirs row x by_dir (dirs_of h)) (n * 8 + dir_number e)) (sym same)
            ∙ there by_dir (dirs_of h) e (sym (dirs_are h e) ∙ i)
            ∙ same_value (number (part h line e) (x + 1)) (number (part h line e) (x + 1))
            (subst (λ (n : ℕ). IsShort (number (part h line e) (n + 1))) (sym same) short) refl
            ∙ ap (λ (n : ℕ). number (part h line e) (n + 1)) same

  pub laid_more : (h : Heading) (line : Line) (old new n ne nw e w : List ℤ) → AreLaid h line x old row
      → n ≡ line.ahead.items → ne ≡ line.ahead_east.items → nw ≡ line.ahead_west.items → e ≡ line.east.items
      → w ≡ line.west.items → new ≡ with_cell h row x (stored n) (stored ne) (stored nw) (stored e) (stored w)
      → AreLaid h line (x + 1) old new
  laid_more Upwards line old new n ne nw e w laid is_n is_ne is_nw is_e is_w made =
      subst (λ (r : List ℤ). AreLaid Upwards line (x + 1) old r)
      (sym (made ∙ rw (is_n, is_ne, is_nw, is_e, is_w) refl)) (laid_dirs Upwards line old laid)
  laid_more Downwards line old new n ne nw e w laid is_n is_ne is_nw is_e is_w made =
      subst (λ (r : List ℤ). AreLaid Downwards line (x + 1) old r)
      (sym (made ∙ rw (is_n, is_ne, is_nw) refl)) (laid_dirs Downwards line old laid)

-- where the entries of a cell stand
earlier : (m n k s : ℕ) → m < n → k < 8 → s ≡ n * 8 → m * 8 + k < s
earlier m n k s h few e = omega arith

later : (y r w x k s n : ℕ) → s ≡ y * w * 8 → n ≡ w * 8 → s + n ≤ ((y + 1 + r) * w + x) * 8 + k
later y r w x k s n e f = omega (arith, e, f)

among_these : (y w x k s : ℕ) → s ≡ y * w * 8 → (y * w + x) * 8 + k ≡ s + (x * 8 + k)
among_these y w x k s e = omega (arith, e)

spread : (s k : ℕ) → s + k - s ≡ k
spread s k = omega arith

-- where the row y of tables begins and ends
pub row_begins : (y w v : ℕ) → w ≡ v → y * (w * 8) ≡ y * v * 8
row_begins y w v e = ap (λ (n : ℕ). y * (n * 8)) e ∙ omega arith

pub row_ends : (y h w n : ℕ) → y < h → n ≡ h * w * 8 → y * (w * 8) + w * 8 ≤ n
row_ends y h w n some e = grind (arith, nat_tests)

parts : (g : GridData) (h : Heading) (y : ℕ) (line : Line) → AreAhead g h y line → AreAlong g y line
    → (e : Dir)
    → is_swept h e ≡ true → IsEntryRow g y e (part h line e)
parts g h y line i j e k = grind (arith, nat_tests)

pub row_swept : (g : GridData) → IsGrid g → (h : Heading) (y : ℕ) (line : Line) (old new : List ℤ)
    → AreAhead g h y line → AreAlong g y line → y < g.height → AreLaid h line g.width old new
    → IsRowSwept g h y old new
row_swept g whole h y line old new ahead along inside laid = record {
  long = laid.long;
  entered = λ x e column is.
      let on : is_inside g (record { x = x; y = y }) ≡ true = grind (arith, nat_tests) in
      let entry = parts g h y line ahead along e is (record { x = x; y = y }) refl on in
      laid.entered x e column is (subst (λ (z : ℤ). IsShort z) (sym entry)
      (table_entry-short g whole (record { x = x; y = y }) e)) ∙ entry;
  others = laid.others;
}

-- a row of entries that was swept lies among all
module _ (g : GridData) (h : Heading) (y start k : ℕ) (all row : List ℤ) (begins : start ≡ y * g.width * 8)
    (wide : k ≡ g.width * 8) (room : start + k ≤ length all)
    (swept_row : IsRowSwept g h y (mid_of start k all) row) where
  final : List ℤ
  final = put_mid start k all row

  inside : start ≤ length all
  inside = omega (arith, room)

  filled : length row ≡ k
  filled = grind (arith, common_steps, mid_of, spread, mid_len)

  as_long : length (put_mid start k all row) ≡ length all
  as_long = grind (arith, common_steps, put_mid, spread, long_with, filled)

  module _ (c : Cell) (e : Dir) (on : is_inside g c ≡ true) where
    place : ℕ
    place = entry_place g.width c e

    on_row : c.y ≡ y → place ≡ start + (c.x * 8 + dir_number e)
    unfolding place
    on_row same = grind (arith, nat_tests)

    in_row : c.x * 8 + dir_number e < k
    in_row = grind (arith, nat_tests)

    number_here : c.y ≡ y → is_swept h e ≡ true → number final place ≡ table_entry g c e
    unfolding final
    number_here same is = grind (arith, nat_tests, final, on_row, read_within, inside, filled, in_row)

    kept_here : c.y ≡ y → is_swept h e ≡ false → number final place ≡ number all place
    unfolding final
    kept_here same is =
        grind (arith, nat_tests, final, on_row, read_within, inside, filled, in_row, read_part)

    kept_above : c.y < y → number final place ≡ number all place
    unfolding final place
    kept_above up =
        grind (arith, nat_tests, dir_number-few, read_before, inside, place, earlier, number_below)

    kept_below : y < c.y → number final place ≡ number all place
    unfolding final place
    kept_below down =
        let row_is : c.y ≡ y + 1 + (c.y - (y + 1)) = omega arith in
        read_behind start k all row (pos 0) inside place
        (subst (λ (n : ℕ). start + k ≤ (n * g.width + c.x) * 8 + dir_number e) (sym row_is)
        (later y (c.y - (y + 1)) g.width c.x (dir_number e) start k begins wide)) filled

  right_swept : (before after : Cell → Dir → Bool)
      → ((c : Cell) (e : Dir) → is_inside g c ≡ true → before c e ≡ true
      → number all (entry_place g.width c e) ≡ table_entry g c e)
      → ((c : Cell) (e : Dir) → after c e ≡ true → c.y ≡ y → is_swept h e ≡ false → before c e ≡ true)
      → ((c : Cell) (e : Dir) → after c e ≡ true → c.y ≢ y → before c e ≡ true)
      → AreRight (as_tables g (put_mid start k all row)) g after
  unfolding final place
  right_swept before after p i j =
      grind (arith, nat_tests, elsewhere, final, place, kept_above, kept_below, number_here, kept_here)

-- one more row is swept: what was right stays so, and lies in rows that are there
module _ (height n : ℕ) (below : n < height) (c : Cell) (e : Dir) where
  here_before : (h : Heading) → swept h height (n + 1) c e ≡ true → c.y ≡ nth_row h height n
      → is_swept h e ≡ false → swept h height n c e ≡ true
  here_before h i j k = grind (arith, nat_tests)

  elsewhere_before : (h : Heading) → swept h height (n + 1) c e ≡ true → c.y ≢ nth_row h height n
      → swept h height n c e ≡ true
  elsewhere_before h i j = grind (arith, nat_tests)

  there_before : (h : Heading) → c.y < height → swept h height n c e ≡ true → c.y < rows_there h height n
  there_before h i j = grind (arith, nat_tests)

long_on : (h : Heading) (height w n y start k old all : ℕ) → n < height → y ≡ nth_row h height n
    → start ≡ y * w * 8 → k ≡ w * 8 → old ≡ rows_there h height n * w * 8
    → (old ≤ start + k → all ≡ start + k)
    → (start + k ≤ old → all ≡ old) → all ≡ rows_there h height (n + 1) * w * 8
long_on Upwards height w n y start k old all below at begins wide long grown stays = grind (arith, nat_tests)
long_on Downwards height w n y start k old all below at begins wide long grown stays =
    stays (let ends = row_ends y height w old (omega (arith, at, below)) long in
    let from = row_begins y w w refl in omega (arith, ends, from, begins, wide)) ∙ long

pub swept_on : (g : GridData) (h : Heading) (n y start k : ℕ) (old all row : List ℤ) → n < g.height
    → y ≡ nth_row h g.height n → AreSwept g h n old
    → ((i : ℕ) → i < length old → number all i ≡ number old i)
    → (length old ≤ start + k → length all ≡ start + k)
    → (start + k ≤ length old → length all ≡ length old) → start ≡ y * g.width * 8 → k ≡ g.width * 8
    → start + k ≤ length all → IsRowSwept g h y (mid_of start k all) row
    → AreSwept g h (n + 1) (put_mid start k all row)
swept_on g h n y start k old all row below at known same grown stays begins wide room swept_row = record {
  long = as_long g h y start k all row begins wide room swept_row
      ∙ long_on h g.height g.width n y start k (length old) (length all) below at begins wide known.long
      grown stays;
  right = right_swept g h y start k all row begins wide room swept_row (swept h g.height n)
      (swept h g.height (n + 1)) (λ c e on l. still c e on l ∙ known.right.right c e on l)
      (λ c e l same is. here_before g.height n below c e h l (same ∙ at) is)
      (λ c e l off. elsewhere_before g.height n below c e h l (λ s. off (s ∙ sym at)));
}
  where
    still : (c : Cell) (e : Dir) → is_inside g c ≡ true → swept h g.height n c e ≡ true
        → number all (entry_place g.width c e) ≡ number old (entry_place g.width c e)
    still c e on l = grind (arith, nat_tests, there_before, earlier, number_below, dir_number-few)

-- entries along a row that the sweep does not tell are the grid's before
pub along_right : (g : GridData) (h : Heading) (n y start k : ℕ) (old all : List ℤ) → n < g.height
    → y ≡ nth_row h g.height n → AreSwept g h n old → ((i : ℕ) → i < length old → number all i ≡ number old i)
    → start ≡ y * g.width * 8 → k ≡ g.width * 8 → IsAlongRight g h y (mid_of start k all)
along_right g Upwards n y start k old all below at known same begins wide x e column along is =
    grind (arith, nat_tests)
along_right g Downwards n y start k old all below at known same begins wide x e column along is =
    let few = dir_number-few e in
    let on : is_inside g (record { x = x; y = y }) ≡ true =
    let low : y < g.height = omega (arith, at, below) in grind (arith, nat_tests) in
    let place = among_these y g.width x (dir_number e) start begins in
    read_part start k all (x * 8 + dir_number e) (pos 0) (omega (arith, wide))
    ∙ ap (λ (i : ℕ). number all i) (sym place)
    ∙ same (entry_place g.width (record { x = x; y = y }) e)
    (earlier (y * g.width + x) (g.height * g.width) (dir_number e) (length old)
    (number_below g.width g.height (record { x = x; y = y }) column (omega (arith, at, below))) few
    known.long)
    ∙ known.right.right (record { x = x; y = y }) e on (before (is_upward e) is)
  where
    before : (up : Bool) → not up ≡ false → (up || nat_le (g.height - n) y) ≡ true
    before true is = refl
    before false is = absurd (cc)

-- the sweep that heads down begins where the other one ended
pub swept_up : (g : GridData) (entries : List ℤ) → AreSwept g Upwards g.height entries
    → AreSwept g Downwards 0 entries
swept_up g entries up = record {
  long = up.long;
  right = record {
    sized = up.right.sized;
    right = λ c d inside h. up.right.right c d inside (upward (is_upward d) c inside h);
  };
}
  where
    upward : (b : Bool) (c : Cell) → is_inside g c ≡ true → (b || nat_le (g.height - 0) c.y) ≡ true
        → (b && nat_lt c.y g.height) ≡ true
    upward b c inside h = grind (arith, nat_tests)
