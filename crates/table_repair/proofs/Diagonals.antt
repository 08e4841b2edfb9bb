-- The two sweeps for a diagonal direction.
use Rattle.std.proofs.lemmas.Bool.Decides.{nat_tests}
use Rattle.std.proofs.Common.{◌≡◌, ℕ, ◌+◌, ◌*◌, ◌≤◌, arith, Bool, true, false, refl, mul-le-mul}
use Rattle.std.proofs.lemmas.Bool.{or_parts}
use Rattle.grid_moves.specs.declared.Dir.{Dir}
use Rattle.grid_moves.specs.Grid.{GridData}
use Rattle.pruning.specs.Turns.{is_diagonal}
use Rattle.plus_tables.specs.Tables.{TablesData}
use Rattle.table_repair.specs.declared.span.Span.{Span}
use Rattle.table_repair.specs.Mending.{AreRight, FollowBut, Mends, Sweeps, CanSweep, IsBlock, any_cell}
use Rattle.table_repair.specs.Mending.{either, is_in, is_in_reach, widened, span_next, span_length}
use Rattle.table_repair.specs.Mending.{goes_right, goes_down}
use Rattle.table_repair.proofs.Mends.{mends_both, mends_wider, follow_more}
use Rattle.table_repair.proofs.Directions.{none_waits}
use Rattle.table_repair.proofs.Reach.{rear_behind}

module _ (h : GridData) (rows columns : Span) {wide rear : Span} (by : ℕ) (d : Dir)
    (diagonal : is_diagonal d ≡ true)
    (is_wide : wide ≡ widened (goes_right d) columns by h.width)
    (is_rear : rear ≡ span_next (goes_down d) rows by h.height) where
  both_parts : {t : TablesData} → FollowBut h t d (is_in_reach h rows columns by d)
      → FollowBut h t d (either (is_in rows wide) (is_in rear columns))
  both_parts f = rw (is_wide, is_rear) f

  pub first_waits : {t : TablesData} → FollowBut h t d (is_in_reach h rows columns by d)
      → CanSweep h t d (is_in rows wide)
  first_waits p = grind (arith, nat_tests, both_parts, rear_behind)

  pub second_waits : {t now : TablesData} → FollowBut h t d (is_in_reach h rows columns by d)
      → Sweeps h d (is_in rows wide) t now → CanSweep h now d (is_in rear columns)
  second_waits f sweeps = record {
    later = λ w. false;
    follow = follow_more (λ w k. (or_parts (is_in rear columns w) false k).0)
        (sweeps (is_in rear columns) (both_parts f));
    none_ahead = λ v w k here r. refl;
  }

  pub both_right : {t now new : TablesData} → FollowBut h t d (is_in_reach h rows columns by d)
      → Sweeps h d (is_in rows wide) t now → Sweeps h d (is_in rear columns) now new → AreRight h new d
  both_right {new = new} f first second = none_waits h new d (λ w. false) (λ w. refl)
      (second (λ w. false) (follow_more (λ w k. (or_parts (is_in rear columns w) false k).0)
      (first (is_in rear columns) (both_parts f))))

  pub both_mend : {t now new : TablesData} {m n : ℕ} → Mends h d (is_in rows wide) t now m
      → Mends h d (is_in rear columns) now new n → Mends h d any_cell t new (m + n)
  both_mend a b = mends_both (mends_wider (λ w k. refl) a) (mends_wider (λ w k. refl) b)

  -- they lie on the map
  wide_end : (before : Bool) → IsBlock h rows columns → (widened before columns by h.width).end ≤ h.width
  wide_end true b = let n = b.narrow in omega arith
  wide_end false b = omega arith

  rear_end : (before : Bool) → IsBlock h rows columns → (span_next before rows by h.height).end ≤ h.height
  rear_end true b = let n = b.low in let m = b.some_row in omega arith
  rear_end false b = omega arith

  pub wide_within : IsBlock h rows columns → wide.end ≤ h.width
  wide_within b = rw is_wide (wide_end (goes_right d) b)

  pub rear_within : IsBlock h rows columns → rear.end ≤ h.height
  rear_within b = rw is_rear (rear_end (goes_down d) b)

  wide_short : (before : Bool) → IsBlock h rows columns
      → span_length (widened before columns by h.width) ≤ h.width
  wide_short before p = grind (arith, nat_tests)

  rear_short : (before : Bool) → IsBlock h rows columns
      → span_length (span_next before rows by h.height) ≤ h.height
  rear_short before p = grind (arith, nat_tests)

  -- how many cells that are
  pub cells_few : IsBlock h rows columns
      → span_length rows * span_length wide + span_length rear * span_length columns
      ≤ 3 * (h.width + h.height)
  cells_few b = grind (arith, wide_short, rear_short, mul-le-mul)

pub steps_both : (start now new m n cells more limit : ℕ) → now ≤ start + m + cells → new ≤ now + n + more
    → cells + more ≤ limit → new ≤ start + (m + n) + limit
steps_both start now new m n cells more limit e f g = omega arith
