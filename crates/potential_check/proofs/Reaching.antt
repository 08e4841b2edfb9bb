-- Hands that read a list row by row.
use Rattle.std.proofs.lemmas.Bool.Decides.{nat_tests}
use Rattle.std.proofs.lemmas.Grind.{common_steps}
use Rattle.std.proofs.Common.{◌≡◌, ℕ, zero, suc, ◌+◌, ◌*◌, ◌<◌, ◌≤◌, inl, inr, arith, refl, ap, sym, ◌∙◌}
use Rattle.std.proofs.Common.{subst, true, false, List, [], IsTrue}
use Rattle.std.specs.Prelude.{ℤ, min, nat_lt}
use Rattle.std.specs.List.{list_all}
use Rattle.std.proofs.lemmas.Bool.{and_parts, cases_Bool, ltb-true, ltb-false, le-ltb}
use Rattle.grid_moves.specs.declared.Cell.{Cell}
use Rattle.grid_moves.specs.Grid.{cell_number}
use Rattle.grid_moves.specs.Around.{IsBefore}
use Rattle.potential_check.specs.declared.heights.Heights.{Heights}
use Rattle.potential_check.specs.declared.rising.Column.{Column}
use Rattle.potential_check.specs.declared.rising.Rows.{Rows}
use Rattle.potential_check.specs.declared.rising.Hills.{Hills}
use Rattle.potential_check.specs.Certificate.{lies_inside, ascend_from}
use Rattle.potential_check.specs.Heights.{entries, floor, are_low}
use Rattle.potential_check.specs.Rising.{height_at, cells_in, AreHills, StandAt, Reach, RowsReach, Takes}
use Rattle.potential_check.specs.Rising.{IsColumn}
use Rattle.grid_moves.proofs.Places.{number_below}
use Rattle.potential_check.proofs.Entries.{first_is, height_of-outside}
use Rattle.potential_check.proofs.Entries.{rest_ascends, rest_heights, rest_inside}

-- the number before n is one, and the same
pub before_one : (n m : ℕ) → IsBefore (n + 1) m → m ≡ n
before_one n m b = let e = b.some (omega arith) in omega arith

pub is_before : (n : ℕ) → IsBefore (suc n) n
is_before n = record { some = λ h. omega arith; none = λ h. absurd (omega arith) }

rows_below : (r m n : ℕ) → m ≤ r → m * n ≤ r * n + min 0 n
rows_below r m n k = grind arith

module _ (hills : Hills) (are : AreHills hills) where
  abbrev w : ℕ
  w = hills.grid.now.width

  abbrev h : ℕ
  h = hills.grid.now.height

  abbrev all : List (Cell × ℤ)
  all = entries hills.heights

  parts : (list_all (lies_inside w h) (cells_in all) ≡ true) × (ascend_from w 0 (cells_in all) ≡ true)
  parts = and_parts (list_all (lies_inside w h) (cells_in all)) (ascend_from w 0 (cells_in all)) are.listed

  -- taken at the number where the hand stands
  taken_at : (c : Cell) (height : ℤ) (old new : Heights) → c.x < w → StandAt hills (cell_number w c) old
      → Takes old c height new → (height ≡ height_at hills c) × StandAt hills (cell_number w c + 1) new
  taken_at c height old new inside stands takes = (
    takes.is ∙ first_is w (floor old) c (entries old) stands.ascend ∙ stands.same c (omega arith),
    record {
      inside = rw takes.rest (rest_inside w (floor old) c h (entries old) stands.inside);
      ascend = rw takes.rest (rest_ascends w (floor old) c h
          (entries old) inside stands.inside stands.ascend);
      same = λ d later. rw (takes.rest, takes.floor_is)
          (rest_heights w (floor old) c d (entries old) (omega arith)
          ∙ stands.same d (omega arith));
      floor_is = takes.floor_is ∙ stands.floor_is;
      low = takes.low;
    },
  )

  -- taken outside, where nothing is listed
  taken_outside : (n : ℕ) (c : Cell) (height : ℤ) (old new : Heights) → lies_inside w h c ≡ false
      → StandAt hills n old → Takes old c height new → (height ≡ height_at hills c) × StandAt hills n new
  taken_outside n c height old new off stands takes =
      let none = height_of-outside w (floor old) c h (entries old) off stands.inside in
      let whole = height_of-outside w (floor hills.heights) c h all off parts.0 in
      let left : entries new ≡ entries old = takes.rest ∙ none.2 in (
        takes.is ∙ none.1 ∙ ap (λ (f : Cell → ℤ). f c) stands.floor_is ∙ sym whole.0,
        record {
          inside = rw left stands.inside;
          ascend = rw left stands.ascend;
          same = λ d later. rw (left, takes.floor_is) (stands.same d later);
          floor_is = takes.floor_is ∙ stands.floor_is;
          low = takes.low;
        },
      )

  stand_same : (m n : ℕ) (heights : Heights) → m ≡ n → StandAt hills m heights → StandAt hills n heights
  stand_same m n heights e s = subst (λ (k : ℕ). StandAt hills k heights) e s

  column_off : (c : Cell) → w ≤ c.x → lies_inside w h c ≡ false
  column_off c off = rw (le-ltb c.x w off) refl

  -- the next column of a row, which may lie outside
  pub reach_next : (row column : ℕ) (height : ℤ) (old new : Heights) → Reach hills row column old
      → Takes old (record { x = column; y = row }) height new
      → (height ≡ height_at hills (record { x = column; y = row })) × Reach hills row (column + 1) new
  reach_next row column height old new stands takes = elim (cases_Bool (nat_lt column w)) [
    | inl less ↦
        (let inside = ltb-true column w less in
        let taken = taken_at (record { x = column; y = row }) height old new inside
        (stand_same _ _ old (here inside) stands) takes in
        (taken.0, stand_same _ _ new (next inside) taken.1))
    | inr not ↦
        (let off = ltb-false column w not in
        let taken = taken_outside _ (record { x = column; y = row }) height old new
        (column_off (record { x = column; y = row }) off) stands takes in
        (taken.0, stand_same _ _ new (stays off) taken.1))
  ]
    where
      here : column < w → row * w + min column w ≡ row * w + column
      here l = ap (λ n. row * w + n) (least column w l)
        where
          least : (m n : ℕ) → m < n → min m n ≡ m
          least m n k = omega arith

      next : column < w → row * w + column + 1 ≡ row * w + min (column + 1) w
      next l = apart (row * w) column w l
        where
          apart : (r m n : ℕ) → m < n → r + m + 1 ≡ r + min (m + 1) n
          apart r m n k = omega arith

      stays : w ≤ column → row * w + min column w ≡ row * w + min (column + 1) w
      stays l = apart (row * w) column w l
        where
          apart : (r m n : ℕ) → n ≤ m → r + min m n ≡ r + min (m + 1) n
          apart r m n k = omega arith

  -- a column before the first
  pub reach_off : (row column at : ℕ) (height : ℤ) (old new : Heights) → w ≤ column → Reach hills row at old
      → Takes old (record { x = column; y = row }) height new
      → (height ≡ height_at hills (record { x = column; y = row })) × Reach hills row at new
  reach_off row column at height old new off stands takes =
      taken_outside _ (record { x = column; y = row }) height old new
      (column_off (record { x = column; y = row }) off) stands takes

  -- behind the last column begins the next row
  pub reach_row : (row column : ℕ) (heights : Heights) → w ≤ column → Reach hills row column heights
      → Reach hills (row + 1) 0 heights
  reach_row row column heights h1 h2 = grind (arith, common_steps, stand_same)

  -- at the beginning
  pub reach_begin : Reach hills 0 0 hills.heights
  reach_begin = grind (arith, common_steps, stand_same, parts)

  -- in a row below the map nothing is left
  pub reach_past : (row : ℕ) (heights : Heights) → 4096 ≤ row → entries heights ≡ []
      → floor heights ≡ floor hills.heights → IsTrue (are_low heights) → Reach hills row 0 heights
  reach_past row heights past none same low = record {
    inside = rw none refl;
    ascend = rw none refl;
    same = λ c later. rw (none, same) (sym (height_of-outside w (floor hills.heights) c h all
        (off c (rows_below row h w (omega (arith, are.grid.sides.low))) later) parts.0).0);
    floor_is = same;
    low = low;
  }
    where
      off : (c : Cell) → h * w ≤ row * w + min 0 w → row * w + min 0 w ≤ cell_number w c
          → lies_inside w h c ≡ false
      off c h1 h2 = grind (arith, nat_tests, cases_Bool, and_parts, number_below, ltb-true)

  -- a column of three rows is taken
  pub rows_taken : (y column : ℕ) (old new : Rows) (heights : Column)
      → ((up : ℕ) → IsBefore y up → Takes old.above (record { x = column; y = up }) heights.above new.above)
      → Takes old.here (record { x = column; y = y }) heights.here new.here
      → Takes old.below (record { x = column; y = y + 1 }) heights.below new.below
      → RowsReach hills y column old
      → IsColumn hills column y heights × RowsReach hills y (column + 1) new
  rows_taken y column old new heights above here below reach =
      let up = λ (n : ℕ) (b : IsBefore y n).
      reach_next n column heights.above old.above new.above (reach.above n b) (above n b) in
      let at = reach_next y column heights.here old.here new.here reach.here here in
      let down = reach_next (y + 1) column heights.below old.below new.below reach.below below in (
        record { above = λ n b. (up n b).0; here = at.0; below = down.0 },
        record { above = λ n b. (up n b).1; here = at.1; below = down.1 },
      )

  -- one before the first
  pub rows_off : (y column : ℕ) (old new : Rows) (heights : Column) → w ≤ column
      → ((up : ℕ) → IsBefore y up → Takes old.above (record { x = column; y = up }) heights.above new.above)
      → Takes old.here (record { x = column; y = y }) heights.here new.here
      → Takes old.below (record { x = column; y = y + 1 }) heights.below new.below → RowsReach hills y 0 old
      → IsColumn hills column y heights × RowsReach hills y 0 new
  rows_off y column old new heights off above here below reach =
      let up = λ (n : ℕ) (b : IsBefore y n).
      reach_off n column 0 heights.above old.above new.above off (reach.above n b) (above n b) in
      let at = reach_off y column 0 heights.here old.here new.here off reach.here here in
      let down = reach_off (y + 1) column 0 heights.below old.below new.below off reach.below below in (
        record { above = λ n b. (up n b).0; here = at.0; below = down.0 },
        record { above = λ n b. (up n b).1; here = at.1; below = down.1 },
      )

  -- the row after a row: what was read in the row and below it before, and what is left below it
  pub rows_next : (y column : ℕ) (old new next : Rows) → w ≤ column → RowsReach hills y 0 old
      → RowsReach hills y column new → next.above ≡ old.here → next.here ≡ old.below → next.below ≡ new.below
      → RowsReach hills (y + 1) 0 next
  rows_next y column old new next h1 h2 h3 h4 h5 h6 = grind (arith, common_steps, before_one, reach_row)

  -- the heights above are low, as there is a number before
  pub above_low : (y column : ℕ) (rows : Rows) → RowsReach hills y column rows → are_low rows.above ≡ true
  above_low zero column rows reach = (reach.above 65535 (record {
    some = λ k. absurd (omega arith);
    none =
        λ e. refl;
  })).low
  above_low (suc y) column rows reach = (reach.above y (is_before y)).low
