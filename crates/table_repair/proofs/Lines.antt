-- What lies ahead on a line.
use Rattle.std.proofs.lemmas.Bool.Decides.{nat_tests}
use Rattle.std.proofs.Common.{◌≡◌, ℕ, zero, suc, ◌+◌, ◌-◌, ◌<◌, ◌≤◌, arith, Bool, true, false, refl, sym, ◌∙◌}
use Rattle.std.specs.Prelude.{Option, Some, None, option_and_then}
use Rattle.grid_moves.specs.declared.Cell.{Cell}
use Rattle.grid_moves.specs.declared.Dir.{Dir}
use Rattle.grid_moves.specs.Grid.{GridData, is_inside}
use Rattle.grid_moves.specs.Move.{ahead}
use Rattle.grid_moves.proofs.Places.{inside_is}
use Rattle.pruning.proofs.Bridging.{one_of}
use Rattle.pruning.proofs.Running.{Trend, rising, level, falling, column_trend, row_trend, IsMoved, AreMoved}
use Rattle.pruning.proofs.Running.{ahead_moved}
use Rattle.plus_tables.specs.Tables.{TablesData}
use Rattle.table_repair.specs.Mending.{IsRight, cell_after, behind_on, FollowBut}
use Rattle.table_repair.proofs.Moving.{ahead_behind, behind_ahead, moved_nowhere}

-- so many moves ahead
pub after_moved : (d : Dir) (k : ℕ) (u w : Cell) → cell_after d k u ≡ Some w → AreMoved d k u w
after_moved d zero u w e = let s = one_of u w e in rw (← s) (moved_nowhere d u)
after_moved d (suc k) u w e = by_cell (ahead d u) refl (λ v f. after_moved d k v w f) e
  where
    by_cell : (o : Option Cell) → ahead d u ≡ o
        → ((v : Cell) → cell_after d k v ≡ Some w → AreMoved d k v w)
        → option_and_then (λ v. cell_after d k v) o ≡ Some w → AreMoved d (suc k) u w
    by_cell o h i j = grind (arith, nat_tests)

-- one move before that
pub after_before : (d : Dir) (k : ℕ) (u v w : Cell) → ahead d u ≡ Some v → cell_after d k v ≡ Some w
    → cell_after d (suc k) u ≡ Some w
after_before d k u v w e f = rw e f

-- a cell on the map whose move leads there is the one behind
pub behind_on-is : (h : GridData) (d : Dir) (u v : Cell) → behind_on h d v ≡ Some u
    → (ahead d u ≡ Some v) × (is_inside h u ≡ true)
behind_on-is h d u v e = grind (arith, one_of, behind_ahead)

pub behind_on-from : (h : GridData) (d : Dir) (u v : Cell) → ahead d u ≡ Some v → is_inside h u ≡ true
    → behind_on h d v ≡ Some u
behind_on-from h d u v e i = rw (ahead_behind d u v e, i) refl

-- there is one such cell at most
pub one_behind : (d : Dir) (p u v : Cell) → ahead d p ≡ Some v → ahead d u ≡ Some v → p ≡ u
one_behind d p u v e f = one_of p u (sym (ahead_behind d p v e) ∙ ahead_behind d u v f)

-- what is left of the map
left_over : Trend → ℕ → ℕ → ℕ
left_over rising side a = side - a
left_over level side a = 0
left_over falling side a = a

room : GridData → Dir → Cell → ℕ
room h d u = left_over (column_trend d) h.width u.x + left_over (row_trend d) h.height u.y

no_more : (t : Trend) (side a b : ℕ) → IsMoved t 1 a b → left_over t side b ≤ left_over t side a
unfolding left_over
no_more t side a b h = grind (arith, nat_tests)

less_rising : (side a b : ℕ) → IsMoved rising 1 a b → b < side
    → left_over rising side b < left_over rising side a
unfolding left_over
less_rising side a b m i = omega arith

less_falling : (side a b : ℕ) → IsMoved falling 1 a b → left_over falling side b < left_over falling side a
unfolding left_over
less_falling side a b m = omega arith

less_room : (h : GridData) (d : Dir) (u v : Cell) → AreMoved d 1 u v → v.x < h.width → v.y < h.height
    → room h d v < room h d u
unfolding room
less_room h d u v i j k = grind (arith, nat_tests, no_more, level, less_falling, rising, less_rising, falling)

module _ (h : GridData) (t : TablesData) (d : Dir) where
  -- where no cell ahead waits, the entry is right
  pub right_ahead : (waits : Cell → Bool) → FollowBut h t d waits → (u : Cell) → is_inside h u ≡ true
      → ((w : Cell) (k : ℕ) → cell_after d (suc k) u ≡ Some w → waits w ≡ false) → IsRight h t u d
  right_ahead waits f u i none = within (suc (room h d u)) u i (omega arith) none
    where
      within : (n : ℕ) (u : Cell) → is_inside h u ≡ true → room h d u < n
          → ((w : Cell) (k : ℕ) → cell_after d (suc k) u ≡ Some w → waits w ≡ false) → IsRight h t u d
      within zero u i l none = absurd (omega arith)
      within (suc n) u i l none = by_cell (ahead d u) refl
          (λ v j s o. within n v j s o)
        where
          by_inside : (v : Cell) → ahead d u ≡ Some v → (b : Bool) → is_inside h v ≡ b
              → ((v : Cell) → is_inside h v ≡ true → room h d v < n
              → ((w : Cell) (k : ℕ) → cell_after d (suc k) v ≡ Some w → waits w ≡ false) → IsRight h t v d)
              → IsRight h t u d
          by_inside v e true j rest =
              let m = inside_is h v j in
              let less = less_room h d u v (ahead_moved d u v e) m.0 m.1 in
              let ahead_right : IsRight h t v d = rest v j (omega arith)
              (λ w k r. none w (suc k) (after_before d (suc k) u v w e r)) in
              f.next u v i e j (none v 0 (after_before d 0 u v v e refl)) ahead_right
          by_inside v e false j rest = f.last u i
              (λ w l. let s = one_of v w (sym e ∙ l) in rw (← s) j)

          by_cell : (o : Option Cell) → ahead d u ≡ o
              → ((v : Cell) → is_inside h v ≡ true → room h d v < n
              → ((w : Cell) (k : ℕ) → cell_after d (suc k) v ≡ Some w → waits w ≡ false) → IsRight h t v d)
              → IsRight h t u d
          by_cell None e rest = f.last u i (λ w l. absurd (cc))
          by_cell (Some v) e rest = by_inside v e (is_inside h v) refl rest
