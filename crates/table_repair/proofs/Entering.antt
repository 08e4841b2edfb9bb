-- A block is swept line by line: in each line walks begin beside those that have come to it.
use Rattle.std.proofs.lemmas.Bool.Decides.{nat_tests}
use Rattle.std.proofs.Common.{◌≡◌, ℕ, suc, ◌+◌, ◌<◌, ◌≤◌, inl, inr, arith, Bool, true, false, ◌||◌, List, []}
use Rattle.std.specs.Prelude.{Some, ◌&&◌}
use Rattle.std.proofs.lemmas.Bool.{or_left, or_right, or_from, false_from_ne_true, or_cases}
use Rattle.grid_moves.specs.declared.Cell.{Cell}
use Rattle.grid_moves.specs.declared.Dir.{Dir}
use Rattle.grid_moves.specs.Grid.{GridData}
use Rattle.grid_moves.specs.Move.{is_same}
use Rattle.grid_moves.proofs.Legal.{and_both, is_same-cell}
use Rattle.pruning.proofs.Running.{AreMoved, ahead_moved}
use Rattle.plus_tables.specs.Tables.{TablesData}
use Rattle.table_repair.specs.declared.span.Span.{Span}
use Rattle.table_repair.specs.declared.walks.WalkBack.{WalkBack}
use Rattle.table_repair.specs.Abreast.{is_at_one, no_cell, IsBehindOne, KeepAbreast}
use Rattle.table_repair.specs.Lines.{line_of, place_of, cell_on, lines_of, places_of, lines_rise}
use Rattle.table_repair.specs.Lines.{is_on_line, is_across}
use Rattle.table_repair.specs.Mending.{IsRight, CanSweep, either, is_among, cell_after}
use Rattle.table_repair.proofs.Abreast.{enter_next}
use Rattle.table_repair.proofs.Across.{on_map, on_parts, line_of_block, line_or_rest, from_place, cell_there}
use Rattle.table_repair.proofs.Across.{place_or_rest}
use Rattle.table_repair.proofs.Lines.{after_moved, right_ahead}
use Rattle.table_repair.proofs.Sweeping.{IsTaken, among_parts}

-- the line is one of those that are left, or lies behind them
abbrev pub IsPast : Bool → Span → ℕ → Type 0
IsPast true left y = y < left.end
IsPast false left y = left.first ≤ y

among_past : (rise : Bool) (left : Span) (y : ℕ) → is_among left y ≡ true → IsPast rise left y
among_past rise left y h = grind (arith, nat_tests)

pub past_none : (rise : Bool) (left : Span) (d : Dir) (walks : List WalkBack) → walks ≡ [] → (w : Cell)
    → is_at_one walks w ≡ true → IsPast rise left (line_of d w)
past_none rise left d walks e w k = absurd (none walks e k)
  where
    none : (walks : List WalkBack) → walks ≡ [] → is_at_one walks w ≡ true → ⊥
    none walks e k = grind arith

-- a cell behind one of these is behind one of more
pub beside_behind : {d : Dir} {there : Cell → Bool} {u : Cell} (row : Cell → Bool) → IsBehindOne d there u
    → IsBehindOne d (either there row) u
beside_behind {there = there} row b =
    record { from = b.from; stood = or_left (there b.from) (row b.from) b.stood; behind = b.behind }

-- place by place
pub enter_place : {h : GridData} {d : Dir} (starts : Cell → Bool) (line place : ℕ) (places : Span) {v : Cell}
    {old now new : TablesData} {walks onward : List WalkBack} {n m : ℕ} → v ≡ cell_on d line place
    → is_among places place ≡ true
    → KeepAbreast h d (either starts (is_on_line d line places)) old now walks
    (is_on_line d line (from_place place places)) n
    → IsRight h now v d
    → KeepAbreast h d (either (is_at_one walks) (λ w. is_same w v)) now new onward no_cell m
    → KeepAbreast h d (either starts (is_on_line d line places)) old new onward
    (is_on_line d line (from_place (place + 1) places)) (n + m)
enter_place {d = d} starts line place places {v = v} is among abreast right second = enter_next abreast
    (λ w k. rw (is_same-cell w v k) right)
    (λ w k. rw (is_same-cell w v k) (or_right (starts v) (is_on_line d line places v)
    (cell_there d line place places is among)))
    (place_or_rest d line place places is) second

module _ {h : GridData} {d : Dir} (lines places : Span) {left rest : Span} {line : ℕ} {old now : TablesData}
    {walks : List WalkBack} {n : ℕ}
    (abreast : KeepAbreast h d (is_across d lines places) old now walks (is_across d left places) n)
    (past : (w : Cell) → is_at_one walks w ≡ true → IsPast (lines_rise d) left (line_of d w))
    (within : (k : ℕ) → is_among left k ≡ true → is_among lines k ≡ true)
    (taken : IsTaken (lines_rise d) left line rest) where
  -- what lies ahead of the line is not past
  ahead_past : (d : Dir) (k : ℕ) (v w : Cell) → IsTaken (lines_rise d) left line rest → line_of d v ≡ line
      → AreMoved d (suc k) v w → IsPast (lines_rise d) left (line_of d w) → ⊥
  ahead_past d k v w t e m p = grind arith

  pub line_low : lines.end ≤ lines_of h d → line < lines_of h d
  line_low low = let l = (among_parts lines line (within line taken.member)).1 in omega arith

  -- the line's entries are right, since no cell ahead waits
  pub enter_right : lines.end ≤ lines_of h d → places.end ≤ places_of h d
      → CanSweep h old d (is_across d lines places) → (v : Cell) → is_on_line d line places v ≡ true
      → IsRight h now v d
  enter_right low narrow can v here =
      right_ahead h now d (either (is_at_one walks) (either (is_across d left places) can.later))
      (abreast.follows can.later can.follow) v (on_map h d line places v (line_low low) narrow here)
      (λ w k r. or_from (is_at_one walks w) (is_across d left places w || can.later w)
      (false_from_ne_true (is_at_one walks w) (λ i. not_past w k r (past w i)))
      (or_from (is_across d left places w) (can.later w)
      (false_from_ne_true (is_across d left places w) (λ i. not_past w k r
      (among_past (lines_rise d) left (line_of d w)
      (and_both (is_among left (line_of d w)) (is_among places (place_of d w)) i).0)))
      (can.none_ahead v w k
      (line_of_block d lines places line (within line taken.member) v here) r)))
    where
      not_past : (w : Cell) (k : ℕ) → cell_after d (suc k) v ≡ Some w
          → IsPast (lines_rise d) left (line_of d w) → ⊥
      not_past w k r p = ahead_past d k v w taken (on_parts d line places v here).0
          (after_moved d (suc k) v w r) p

  behind_past : (d : Dir) (w v : Cell) → IsTaken (lines_rise d) left line rest → AreMoved d 1 w v
      → IsPast (lines_rise d) left (line_of d v) → IsPast (lines_rise d) rest (line_of d w)
  behind_past d w v t m p = grind arith

  -- walks that have left the line are past those that are left
  pub enter_past : (w : Cell) → IsBehindOne d (either (is_at_one walks) (is_on_line d line places)) w
      → IsPast (lines_rise d) rest (line_of d w)
  enter_past w b = behind_past d w b.from taken (ahead_moved d w b.from b.behind)
      (elim (or_cases (is_at_one walks b.from) (is_on_line d line places b.from) b.stood) [
        | inl i ↦ past b.from i
        | inr i ↦ (let e = (on_parts d line places b.from i).0 in
            rw e (among_past (lines_rise d) left line taken.member))
      ])

  pub enter_line : {new : TablesData} {onward : List WalkBack} {m : ℕ} → lines.end ≤ lines_of h d
      → places.end ≤ places_of h d → CanSweep h old d (is_across d lines places)
      → KeepAbreast h d (either (is_at_one walks) (is_on_line d line places)) now new onward no_cell m
      → KeepAbreast h d (is_across d lines places) old new onward (is_across d rest places) (n + m)
  enter_line low narrow can second = enter_next abreast (enter_right low narrow can)
      (λ w i. line_of_block d lines places line (within line taken.member) w i)
      (λ w s r. line_or_rest taken d places w s r) second

-- no line is left
pub none_left : (d : Dir) (left places : Span) → ((k : ℕ) → is_among left k ≡ false) → (w : Cell)
    → is_across d left places w ≡ false
none_left d left places none w = not_both (is_among left (line_of d w)) (is_among places (place_of d w))
    (none (line_of d w))
  where
    not_both : (a b : Bool) → a ≡ false → (a && b) ≡ false
    not_both a b e = grind arith
