-- Lines across a direction.
use Rattle.std.proofs.lemmas.Bool.Decides.{nat_tests}
use Rattle.std.proofs.Common.{◌≡◌, ℕ, ◌+◌, ◌<◌, ◌≤◌, arith, Bool, true, false, refl, sym, ◌∙◌, ◌&&◌}
use Rattle.std.specs.Prelude.{Some, nat_eq, if◌then◌else◌}
use Rattle.std.proofs.lemmas.Bool.{and_from, false_from_ne_true}
use Rattle.grid_moves.specs.declared.Cell.{Cell}
use Rattle.grid_moves.specs.declared.Dir.{Dir}
use Rattle.grid_moves.specs.Grid.{GridData, IsGrid, is_inside}
use Rattle.grid_moves.specs.Move.{column_ahead, is_same, opposite, row_ahead}
use Rattle.grid_moves.proofs.Legal.{and_both, is_same-itself, same_cell}
use Rattle.grid_moves.proofs.Places.{inside_is, inside_from}
use Rattle.plus_tables.specs.Tables.{TablesData}
use Rattle.table_repair.specs.declared.span.Span.{Span}
use Rattle.table_repair.specs.Lines.{is_sideways, line_of, place_of, cell_on, lines_of, places_of}
use Rattle.table_repair.specs.Lines.{is_on_line, is_across}
use Rattle.table_repair.specs.Mending.{Mends, CanSweep, Sweeps, is_among, is_in}
use Rattle.table_repair.proofs.Mends.{mends_wider, follow_more}
use Rattle.table_repair.proofs.Sweeping.{IsTaken, among_parts, among_from, same_number, number_same}
use Rattle.table_repair.proofs.Walking.{true_false}

pub line_inside : (h : GridData) (d : Dir) (w : Cell) → is_inside h w ≡ true → line_of d w < lines_of h d
line_inside h d w i = by_way (is_sideways d)
  where
    by_way : (b : Bool) → (if b then w.x else w.y) < (if b then h.width else h.height)
    by_way true = (inside_is h w i).0
    by_way false = (inside_is h w i).1

pub lines_few : (h : GridData) (d : Dir) → IsGrid h → lines_of h d ≤ 4096
lines_few h d grid = by_way (is_sideways d)
  where
    by_way : (b : Bool) → (if b then h.width else h.height) ≤ 4096
    by_way true = grid.sides.narrow
    by_way false = grid.sides.low

pub places_few : (h : GridData) (d : Dir) → IsGrid h → places_of h d ≤ 4096
places_few h d grid = by_way (is_sideways d)
  where
    by_way : (b : Bool) → (if b then h.height else h.width) ≤ 4096
    by_way true = grid.sides.low
    by_way false = grid.sides.narrow

-- one more than the columns, or rows, of a move back
pub columns_few : (d : Dir) {k : ℕ} → column_ahead (opposite d) 1 ≡ Some k → k ≤ 2
columns_few d e = grind arith

pub rows_few : (d : Dir) {k : ℕ} → row_ahead (opposite d) 1 ≡ Some k → k ≤ 2
rows_few d e = grind arith

-- what a test of a line and places tells
pub on_parts : (d : Dir) (line : ℕ) (places : Span) (w : Cell) → is_on_line d line places w ≡ true
    → (line_of d w ≡ line) × (is_among places (place_of d w) ≡ true)
on_parts d line places w i =
    let p = and_both (nat_eq (line_of d w) line) (is_among places (place_of d w)) i in
    (number_same (line_of d w) line p.0, p.1)

-- the places from one on
abbrev pub from_place : ℕ → Span → Span
from_place place places = record { first = place; end = places.end }

-- these cells lie on the map
pub on_map : (h : GridData) (d : Dir) (line : ℕ) (places : Span) (w : Cell) → line < lines_of h d
    → places.end ≤ places_of h d → is_on_line d line places w ≡ true → is_inside h w ≡ true
on_map h d line places w low narrow i =
    let p = on_parts d line places w i in
    let q = among_parts places (place_of d w) p.1 in
    let l = q.1 in
    let e = p.0 in
    by_way (is_sideways d) (omega arith) (omega arith)
  where
    by_way : (b : Bool) → (if b then w.x else w.y) < (if b then h.width else h.height)
        → (if b then w.y else w.x) < (if b then h.height else h.width) → is_inside h w ≡ true
    by_way true k l = inside_from h w k l
    by_way false k l = inside_from h w l k

module _ (d : Dir) (line place : ℕ) (places : Span) {v : Cell} (is : v ≡ cell_on d line place) where
  -- the cell at a place
  pub cell_there : is_among places place ≡ true → is_on_line d line places v ≡ true
  cell_there i = rw is (and_from (nat_eq (line_of d (cell_on d line place)) line)
      (is_among places (place_of d (cell_on d line place))) (rw line_there (same_number line))
      (rw place_there i))
    where
      line_there : line_of d (cell_on d line place) ≡ line
      line_there = grind arith

      place_there : place_of d (cell_on d line place) ≡ place
      place_there = grind arith

  one_cell : (w : Cell) → line_of d w ≡ line → place_of d w ≡ place → w ≡ v
  one_cell w e f = by_way (is_sideways d) e f ∙ sym is
    where
      by_way : (b : Bool) → (if b then w.x else w.y) ≡ line → (if b then w.y else w.x) ≡ place
          → w ≡ (if b then record { x = line; y = place } else record { x = place; y = line })
      by_way true e f = same_cell w (record { x = line; y = place }) e f
      by_way false e f = same_cell w (record { x = place; y = line }) f e

  -- what was left is that cell, or lies at the places after it
  pub place_or_rest : (w : Cell) → is_same w v ≡ false
      → is_on_line d line (from_place (place + 1) places) w ≡ false
      → is_on_line d line (from_place place places) w ≡ false
  place_or_rest w s r = false_from_ne_true (is_on_line d line (from_place place places) w) (λ i.
      let p = on_parts d line (from_place place places) w i in
      let q = among_parts (from_place place places) (place_of d w) p.1 in
      by_place (nat_eq (place_of d w) place) (λ f. one_cell w p.0 (number_same (place_of d w) place f))
      (λ a. and_from (nat_eq (line_of d w) line) (is_among (from_place (place + 1) places) (place_of d w))
      (rw p.0 (same_number line)) (among_from (from_place (place + 1) places) (place_of d w) a q.1)) refl q.0)
    where
      by_place : (b : Bool) → (nat_eq (place_of d w) place ≡ true → w ≡ v)
          → (place + 1 ≤ place_of d w → is_on_line d line (from_place (place + 1) places) w ≡ true)
          → nat_eq (place_of d w) place ≡ b → place ≤ place_of d w → ⊥
      by_place b f a e l = grind (arith, nat_tests, is_same-itself, true_false)

-- past the last place none is left
pub none_after : (d : Dir) (line place : ℕ) (places : Span) (w : Cell) → places.end ≤ place
    → is_on_line d line (from_place place places) w ≡ false
none_after d line place places w past = false_from_ne_true
    (is_on_line d line (from_place place places) w) (λ i.
    let p = on_parts d line (from_place place places) w i in
    let q = among_parts (from_place place places) (place_of d w) p.1 in
    let l = q.0 in let m = q.1 in omega arith)

-- a line that is taken is the block's
pub line_of_block : (d : Dir) (lines places : Span) (line : ℕ) → is_among lines line ≡ true → (w : Cell)
    → is_on_line d line places w ≡ true → is_across d lines places w ≡ true
line_of_block d lines places line i w on =
    let p = on_parts d line places w on in
    and_from (is_among lines (line_of d w)) (is_among places (place_of d w)) (rw p.0 i) p.1

-- what was left is in that line, or in those that are left
pub line_or_rest : {rise : Bool} {left rest : Span} {line : ℕ} → IsTaken rise left line rest
    → (d : Dir) (places : Span) (w : Cell) → is_on_line d line places w ≡ false
    → is_across d rest places w ≡ false → is_across d left places w ≡ false
line_or_rest {rise} {left} {rest} {line} taken d places w s r =
    not_both (line_of d w) (is_among places (place_of d w)) s r
  where
    not_both : (n : ℕ) (b : Bool) → (nat_eq n line && b) ≡ false → (is_among rest n && b) ≡ false
        → (is_among left n && b) ≡ false
    not_both n b s r = grind (arith, nat_tests)

-- the block by its rows and columns
module _ {h : GridData} (d : Dir) (lines places rows columns : Span)
    (same : (w : Cell) → is_across d lines places w ≡ is_in rows columns w) where
  pub across_can : {t : TablesData} → CanSweep h t d (is_in rows columns)
      → CanSweep h t d (is_across d lines places)
  across_can can = record {
    later = can.later;
    follow = follow_more (λ w k. rw (← same w) k) can.follow;
    none_ahead = λ v w k i r. can.none_ahead v w k (sym (same v) ∙ i) r;
  }

  pub across_mends : {old new : TablesData} {n : ℕ} → Mends h d (is_across d lines places) old new n
      → Mends h d (is_in rows columns) old new n
  across_mends mends = mends_wider (λ w k. sym (same w) ∙ k) mends

  pub across_sweeps : {old new : TablesData} → Sweeps h d (is_across d lines places) old new
      → Sweeps h d (is_in rows columns) old new
  across_sweeps sweeps later f = sweeps later (follow_more (λ w k. rw (← same w) k) f)

pub across_rows : (d : Dir) (rows columns : Span) → is_sideways d ≡ false → (w : Cell)
    → is_across d rows columns w ≡ is_in rows columns w
across_rows d rows columns e w = rw e refl

pub across_columns : (d : Dir) (rows columns : Span) → is_sideways d ≡ true → (w : Cell)
    → is_across d columns rows w ≡ is_in rows columns w
across_columns d rows columns e w = rw e (both (is_among columns w.x) (is_among rows w.y))
  where
    both : (a b : Bool) → (a && b) ≡ (b && a)
    both a b = grind arith
