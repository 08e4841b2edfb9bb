-- Where entries stand, and tables with one entry changed.
use Rattle.std.proofs.Common.{rules, ◌≡◌, ℕ, ◌<◌, arith, length}
use Rattle.std.proofs.Common.{true, false, ap, ◌∙◌, get_or-set_other, get_or-set_same}
use Rattle.std.specs.Prelude.{ℤ, pos, slice_index_or}
use Rattle.std.proofs.lemmas.List.{get_or_read}
use Rattle.std.proofs.lemmas.Bool.Decides.{nat_tests}
use Rattle.grid_moves.specs.declared.Cell.{Cell}
use Rattle.grid_moves.specs.declared.Dir.{Dir}
use Rattle.grid_moves.proofs.Legal.{is_same-itself}
use Rattle.grid_moves.proofs.Dirs.{dir_number-few}
use Rattle.grid_moves.proofs.Places.{one_cell, number_below}
use Rattle.plus_tables.specs.Tables.{TablesData, IsWhole, entry_place, entry_at, is_on, is_place, tables_with}

-- each entry of a cell on the map has a place
pub place_below : (t : TablesData) (c : Cell) (d : Dir) → IsWhole t → is_on t c ≡ true
    → entry_place t.width c d < length t.entries
place_below t c d whole on = grind (arith, nat_tests, number_below, dir_number-few)

-- and two entries have two
pub one_place : (t : TablesData) (b c : Cell) (d e : Dir) → is_on t b ≡ true → is_on t c ≡ true
    → entry_place t.width b e ≡ entry_place t.width c d → is_place b e c d ≡ true
one_place t b c d e h i j = grind (arith, nat_tests, dir_number-few, one_cell, is_same-itself)

-- tables with one entry changed have it, and the others as before
pub entry_at-with_same : (t : TablesData) (c : Cell) (d : Dir) (entry : ℤ) → IsWhole t → is_on t c ≡ true
    → entry_at (tables_with t c d entry) c d ≡ entry
entry_at-with_same t c d entry whole on = search (rules, get_or-set_same, place_below)

pub entry_at-with_other : (t : TablesData) (b c : Cell) (d e : Dir) (entry : ℤ) → is_on t b ≡ true
    → is_on t c ≡ true → is_place b e c d ≡ false
    → entry_at (tables_with t c d entry) b e ≡ entry_at t b e
entry_at-with_other t b c d e entry on on_too other = grind (arith, nat_tests, get_or-set_other, one_place)

-- the same as code sees it: the tables, as they are seen from outside, have the place that was computed
pub place_in : (t now : TablesData) (c : Cell) (d : Dir) → t ≡ now → IsWhole t → is_on now c ≡ true
    → (place count : ℕ) → place ≡ entry_place t.width c d → count ≡ length t.entries → place < count
place_in t now c d e whole on place count is all =
    let below = place_below t c d whole (ap (λ (s : TablesData). is_on s c) e ∙ on) in
    rw (is, all) below

pub read_entry : (t now : TablesData) (c : Cell) (d : Dir) → t ≡ now → IsWhole t → is_on now c ≡ true
    → (place : ℕ) → place ≡ entry_place t.width c d → (entry : ℤ)
    → entry ≡ slice_index_or t.entries place entry → entry ≡ entry_at now c d
read_entry t now c d e whole on place is entry read =
    let below = place_below t c d whole (ap (λ (s : TablesData). is_on s c) e ∙ on) in
    get_or_read t.entries place entry (rw is below) read (pos 0)
    ∙ ap (λ (n : ℕ). slice_index_or t.entries n (pos 0)) is
    ∙ ap (λ (s : TablesData). entry_at s c d) e
