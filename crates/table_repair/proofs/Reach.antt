-- Straight entries that changed lie in reach of the diagonal sweeps.
use Rattle.std.proofs.lemmas.Bool.Decides.{nat_tests}
use Rattle.std.proofs.Common.{◌≡◌, ℕ, ◌+◌, ◌<◌, ◌≤◌, ◌⊎◌, arith, Bool, true, false}
use Rattle.std.specs.Prelude.{suc}
use Rattle.std.proofs.lemmas.Bool.{or_right, and_from, false_from_ne_true}
use Rattle.grid_moves.specs.declared.Cell.{Cell}
use Rattle.grid_moves.specs.declared.Dir.{Dir}
use Rattle.grid_moves.specs.declared.Dir.TheVariants.{N, NE, E, SE, S, SW, W, NW}
use Rattle.grid_moves.specs.Grid.{GridData, is_inside}
use Rattle.grid_moves.proofs.Legal.{and_both}
use Rattle.grid_moves.proofs.Places.{inside_is, inside_from}
use Rattle.pruning.specs.declared.turns.Side.{Side}
use Rattle.pruning.specs.declared.turns.Side.TheVariants.{Right, Left}
use Rattle.pruning.specs.Turns.{turn, is_diagonal}
use Rattle.pruning.proofs.Running.{AreMoved}
use Rattle.table_repair.specs.declared.span.Span.{Span}
use Rattle.table_repair.specs.Mending.{is_among, is_in, span_beside, widened, span_next, is_in_reach}
use Rattle.table_repair.specs.Mending.{goes_right, goes_down, NoneAhead}
use Rattle.table_repair.proofs.Lines.{after_moved}
use Rattle.table_repair.proofs.Sweeping.{among_parts, among_from}

wide_before : (s : Span) (by side a b k : ℕ) → is_among s b ≡ true → b ≡ a + k → k ≤ by
    → is_among (widened true s by side) a ≡ true
wide_before s by side a b k i m l = grind (arith, nat_tests)

wide_behind : (s : Span) (by side a b k : ℕ) → is_among s b ≡ true → a ≡ b + k → k ≤ by → a < side
    → is_among (widened false s by side) a ≡ true
wide_behind s by side a b k i m l j = grind (arith, nat_tests)

wide_still : (before : Bool) (s : Span) (by side a : ℕ) → is_among s a ≡ true → a < side
    → is_among (widened before s by side) a ≡ true
wide_still before s by side a h i = grind (arith, nat_tests)

below_or : (a b : ℕ) → (a ≤ b) ⊎ (b < a)
below_or a b = grind arith

next_before : (s : Span) (by side a b k : ℕ) → is_among s b ≡ true → b ≡ a + k → k ≤ by
    → (is_among s a ≡ true) ⊎ (is_among (span_next true s by side) a ≡ true)
next_before s by side a b k i m l = grind (arith, among_parts, below_or, among_from)

next_behind : (s : Span) (by side a b k : ℕ) → is_among s b ≡ true → a ≡ b + k → k ≤ by → a < side
    → (is_among s a ≡ true) ⊎ (is_among (span_next false s by side) a ≡ true)
next_behind s by side a b k i m l j = grind (arith, among_parts, below_or, among_from)

module _ (h : GridData) (rows columns : Span) (by : ℕ) (d : Dir) (v : Cell) (i : is_inside h v ≡ true) where
  in_row : is_among rows v.y ≡ true → is_among (widened (goes_right d) columns by h.width) v.x ≡ true
      → is_in_reach h rows columns by d v ≡ true
  in_row p q = grind (arith, nat_tests)

  -- the block is in reach
  pub block_reached : is_in rows columns v ≡ true → is_in_reach h rows columns by d v ≡ true
  block_reached j = grind (arith, and_both, in_row, wide_still, inside_is)

  in_column : is_among columns v.x ≡ true
      → (is_among rows v.y ≡ true) ⊎ (is_among (span_next (goes_down d) rows by h.height) v.y ≡ true)
      → is_in_reach h rows columns by d v ≡ true
  in_column p q = grind (arith, nat_tests, block_reached, and_from, or_right)

-- and so is what lies that far behind it in a component
pub line_reached : (h : GridData) (rows columns : Span) (by : ℕ) (d : Dir) (s : Side) → is_diagonal d ≡ true
    → (v start : Cell) (k : ℕ) → k ≤ by → AreMoved (turn s d) k v start → is_in rows columns start ≡ true
    → is_inside h v ≡ true → is_in_reach h rows columns by d v ≡ true
line_reached h rows columns by d s diagonal v start k l m j i = by_dir d s diagonal m
  where
    p : (is_among rows start.y ≡ true) × (is_among columns start.x ≡ true)
    p = and_both (is_among rows start.y) (is_among columns start.x) j

    same_row : start.y ≡ v.y → is_among rows v.y ≡ true
    same_row e = rw (← e) p.0

    same_column : start.x ≡ v.x → is_among columns v.x ≡ true
    same_column e = rw (← e) p.1

    x_inside : v.x < h.width
    x_inside = (inside_is h v i).0

    y_inside : v.y < h.height
    y_inside = (inside_is h v i).1

    by_dir : (d : Dir) (s : Side) → is_diagonal d ≡ true → AreMoved (turn s d) k v start
        → is_in_reach h rows columns by d v ≡ true
    by_dir NE Right q m = in_row h rows columns by NE v i (same_row m.1)
        (wide_before columns by h.width v.x start.x k p.1 m.0 l)
    by_dir NE Left q m = in_column h rows columns by NE v i (same_column m.0)
        (next_behind rows by h.height v.y start.y k p.0 m.1 l y_inside)
    by_dir SE Right q m = in_column h rows columns by SE v i (same_column m.0)
        (next_before rows by h.height v.y start.y k p.0 m.1 l)
    by_dir SE Left q m = in_row h rows columns by SE v i (same_row m.1)
        (wide_before columns by h.width v.x start.x k p.1 m.0 l)
    by_dir SW Right q m = in_row h rows columns by SW v i (same_row m.1)
        (wide_behind columns by h.width v.x start.x k p.1 m.0 l x_inside)
    by_dir SW Left q m = in_column h rows columns by SW v i (same_column m.0)
        (next_before rows by h.height v.y start.y k p.0 m.1 l)
    by_dir NW Right q m = in_column h rows columns by NW v i (same_column m.0)
        (next_behind rows by h.height v.y start.y k p.0 m.1 l y_inside)
    by_dir NW Left q m = in_row h rows columns by NW v i (same_row m.1)
        (wide_behind columns by h.width v.x start.x k p.1 m.0 l x_inside)
    by_dir N s q m = absurd (cc)
    by_dir E s q m = absurd (cc)
    by_dir S s q m = absurd (cc)
    by_dir W s q m = absurd (cc)

-- the rows behind the block lie ahead of none of its cells
pub rear_behind : (d : Dir) (rows columns wide : Span) (by side : ℕ) → is_diagonal d ≡ true
    → NoneAhead d (is_in rows wide) (is_in (span_next (goes_down d) rows by side) columns)
rear_behind d rows columns wide by side diagonal v w k here r =
    false_from_ne_true (is_in (span_next (goes_down d) rows by side) columns w) (λ there.
    let p = and_both (is_among rows v.y) (is_among wide v.x) here in
    let q = and_both (is_among (span_next (goes_down d) rows by side) w.y) (is_among columns w.x) there in
    beyond d diagonal (after_moved d (suc k) v w r) (among_parts rows v.y p.0)
    (among_parts (span_next (goes_down d) rows by side) w.y q.0))
  where
    beyond : (d : Dir) → is_diagonal d ≡ true → AreMoved d (suc k) v w → (rows.first ≤ v.y) × (v.y < rows.end)
        → ((span_next (goes_down d) rows by side).first ≤ w.y)
        × (w.y < (span_next (goes_down d) rows by side).end) → ⊥
    beyond d p q j k = grind (arith, nat_tests)

-- the block lies on the map
pub block_inside : (h : GridData) (c : Cell) (rows columns : Span) → rows ≡ span_beside c.y h.height
    → columns ≡ span_beside c.x h.width → (v : Cell) → is_in rows columns v ≡ true → is_inside h v ≡ true
block_inside h c rows columns r s v i = grind (arith, and_both, among_parts, inside_from)
