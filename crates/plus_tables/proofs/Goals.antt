-- Where a jump comes to the goal, or sees it.
use Rattle.std.proofs.Common.{◌≡◌, ℕ, ◌+◌, ◌-◌, ◌≤◌, arith, Bool, true, false, not, refl, ap, sym, ◌∙◌, subst}
use Rattle.std.specs.Prelude.{ℤ, Some, nat_lt, nat_eq, min, if◌then◌else◌}
use Rattle.std.proofs.lemmas.Bool.Decides.{nat_tests}
use Rattle.grid_moves.specs.declared.Cell.{Cell}
use Rattle.grid_moves.specs.declared.Dir.{Dir}
use Rattle.grid_moves.specs.Grid.{GridData, is_free}
use Rattle.grid_moves.specs.Move.{cell_after}
use Rattle.grid_moves.proofs.Legal.{same_cell}
use Rattle.pruning.specs.declared.turns.Side.{Side}
use Rattle.pruning.specs.Turns.{turn, is_diagonal}
use Rattle.pruning.specs.Marked.{run_end, is_forced, HoldsOnRun, IsMarked, forces, looks_out}
use Rattle.pruning.specs.Stop.{StopsAfter, IsStop, MarkedAfter, at_goal, marked, sees_goal}
use Rattle.pruning.proofs.Running.{AreMoved, moved_to, run_walked}
use Rattle.pruning.proofs.Table.{turn_parity, by_test}
use Rattle.plus_tables.specs.Entry.{table_entry}
use Rattle.plus_tables.specs.Reading as reading
use Rattle.plus_tables.specs.Reading.{is_clear, columns_to, rows_to, row_part, column_part}
use Rattle.jump_plain.specs.Reach.{moves_to}
use Rattle.plus_tables.proofs.Clear.{entry_tells, clear_run, clear_unmarked, clear_where}
use Rattle.plus_tables.proofs.Stops.{IsGoalStop}

-- so many straight moves lead to the goal
to_goal : (d : Dir) (k : ℕ) (x goal : Cell) → is_diagonal d ≡ false → 1 ≤ k → AreMoved d k x goal
    → k ≡ moves_to d x goal
to_goal d k x goal h i j = grind (arith, nat_tests)

-- and where they lead there, the cell is the goal
at_goal_after : (d : Dir) (k : ℕ) (x v goal : Cell) → 1 ≤ k → k ≡ moves_to d x goal → AreMoved d k x v
    → v ≡ goal
at_goal_after d k x v goal h i j = grind (arith, nat_tests)

-- a straight jump comes to the goal where its line leads there
pub straight_goal : (g : GridData) (goal x : Cell) (d : Dir) → is_free g x ≡ true → is_diagonal d ≡ false
    → IsGoalStop g goal x d (table_entry g x d) (moves_to d x goal) true
straight_goal g goal x d f h = record { sound = sound; complete = complete }
  where
    near : ℕ
    near = moves_to d x goal

    sound : 1 ≤ near → is_clear (table_entry g x d) near ≡ true → true ≡ true
        → StopsAfter g goal x d near
    sound i c t =
        let run = clear_run g x d (table_entry g x d) (entry_tells g x d f) near i c in
        let walk = run_walked g d near x run.0 f run.1 in
        record {
          cell = run.0;
          reached = run.1;
          stops = at_goal (at_goal_after d near x run.0 goal i refl walk.moved);
        }

    by_stop : (k : ℕ) → 1 ≤ k → is_clear (table_entry g x d) k ≡ true → (v : Cell) → run_end g d k x ≡ Some v
        → IsStop g goal d v → (k ≡ near) × (true ≡ true)
    by_stop k i c v r (at_goal e) =
        let walk = run_walked g d k x v f r in
        (to_goal d k x goal h i (subst (λ (w : Cell). AreMoved d k x w) e walk.moved), refl)
    by_stop k i c v r (marked m) =
        absurd (clear_unmarked g x d (table_entry g x d) (entry_tells g x d f) k i c
        (record { cell = v; reached = r; marks = m }))
    by_stop k i c v r (sees_goal diagonal s run) = absurd (cc)

    complete : (k : ℕ) → 1 ≤ k → is_clear (table_entry g x d) k ≡ true → StopsAfter g goal x d k
        → (k ≡ near) × (true ≡ true)
    complete k i c s = by_stop k i c s.cell s.reached s.stops

-- the components of a diagonal
pub row_part-side : (d : Dir) → is_diagonal d ≡ true → (s : Side) × (row_part d ≡ turn s d)
row_part-side d h = grind (arith, nat_tests)

pub column_part-side : (d : Dir) → is_diagonal d ≡ true → (s : Side) × (column_part d ≡ turn s d)
column_part-side d h = grind (arith, nat_tests)

-- how the goal lies from a cell, where a diagonal run sees it from its k-th cell
data Sighted (d : Dir) (k m : ℕ) (x goal : Cell) (e : Dir) : Type 0 where
  in_row : e ≡ row_part d → columns_to d x.x goal.x ≡ k + m → rows_to d x.y goal.y ≡ k
      → Sighted d k m x goal e
  in_column : e ≡ column_part d → columns_to d x.x goal.x ≡ k → rows_to d x.y goal.y ≡ k + m
      → Sighted d k m x goal e

sighted : (d : Dir) (s : Side) (k m : ℕ) (x v goal : Cell) → is_diagonal d ≡ true → AreMoved d k x v
    → AreMoved (turn s d) m v goal → Sighted d k m x goal (turn s d)
sighted d s k m x v goal h i j = grind (arith, nat_tests)

-- it lies so many columns and rows on, where the run comes to it
come_to : (d : Dir) (k : ℕ) (x goal : Cell) → is_diagonal d ≡ true → AreMoved d k x goal
    → (columns_to d x.x goal.x ≡ k) × (rows_to d x.y goal.y ≡ k)
come_to d k x goal h p = let a = p.0 in let b = p.1 in (grind arith, grind arith)

-- where the goal lies as many columns as rows on, so many moves come to it
comes_there : (d : Dir) (k : ℕ) (x v goal : Cell) → is_diagonal d ≡ true → 1 ≤ k
    → columns_to d x.x goal.x ≡ k → rows_to d x.y goal.y ≡ k → AreMoved d k x v → v ≡ goal
comes_there d k x v goal h i p q m =
    let a = m.0 in let b = m.1 in same_cell v goal (grind arith) (grind arith)

-- and else moves in the component
row_leads : (d : Dir) (k j : ℕ) (x v w goal : Cell) → is_diagonal d ≡ true → 1 ≤ k → 1 ≤ j
    → columns_to d x.x goal.x ≡ k + j → rows_to d x.y goal.y ≡ k → AreMoved d k x v
    → AreMoved (row_part d) j v w → w ≡ goal
row_leads d k j x v w goal h i l p q m n =
    let a = m.0 in let b = m.1 in let c = n.0 in let e = n.1 in same_cell w goal (grind arith) (grind arith)

column_leads : (d : Dir) (k j : ℕ) (x v w goal : Cell) → is_diagonal d ≡ true → 1 ≤ k → 1 ≤ j
    → columns_to d x.x goal.x ≡ k → rows_to d x.y goal.y ≡ k + j → AreMoved d k x v
    → AreMoved (column_part d) j v w → w ≡ goal
column_leads d k j x v w goal h i l p q m n =
    let a = m.0 in let b = m.1 in let c = n.0 in let e = n.1 in same_cell w goal (grind arith) (grind arith)

-- the nearer of the two, and what is left of the other
more_columns : (c r : ℕ) → nat_lt r c ≡ true → (c ≡ min c r + (c - r)) × (r ≡ min c r) × (1 ≤ c - r)
more_columns c r h = (grind (arith, nat_tests), grind (arith, nat_tests), grind (arith, nat_tests))

more_rows : (c r : ℕ) → nat_lt r c ≡ false → nat_eq c r ≡ false
    → (c ≡ min c r) × (r ≡ min c r + (r - c)) × (1 ≤ r - c)
more_rows c r h k = (grind (arith, nat_tests), grind (arith, nat_tests), grind (arith, nat_tests))

as_many : (c r : ℕ) → nat_eq c r ≡ true → (c ≡ min c r) × (r ≡ min c r)
as_many c r h = (grind (arith, nat_tests), grind (arith, nat_tests))

met : (c r k : ℕ) → c ≡ k → r ≡ k → (k ≡ min c r) × (nat_eq c r ≡ true)
met c r k p q = (grind (arith, nat_tests), grind (arith, nat_tests))

-- a diagonal jump sees the goal where its run meets the goal's row or column first, or comes to it
module _ (g : GridData) (goal x : Cell) (d : Dir) (f : is_free g x ≡ true) (h : is_diagonal d ≡ true) where
  abbrev pub columns : ℕ
  columns = columns_to d x.x goal.x

  abbrev pub rows : ℕ
  rows = rows_to d x.y goal.y

  abbrev pub near : ℕ
  near = min columns rows

  abbrev pub entry : ℤ
  entry = table_entry g x d

  abbrev pub sees_from : Cell → Bool
  sees_from v = reading.sees_goal (table_entry g) d v columns rows

  -- the goal lies on the run in a component
  on_run : (v : Cell) (k : ℕ) → run_end g d k x ≡ Some v → (e : Dir) → ((s : Side) × (e ≡ turn s d)) → (j : ℕ)
      → 1 ≤ j → is_clear (table_entry g v e) j ≡ true
      → ((w : Cell) → AreMoved e j v w → w ≡ goal) → StopsAfter g goal x d k
  on_run v k r e part j i c there =
      let walk = run_walked g d k x v f r in
      let run = clear_run g v e (table_entry g v e) (entry_tells g v e walk.free) j i c in
      let onward = run_walked g e j v run.0 walk.free run.1 in
      record {
        cell = v;
        reached = r;
        stops = sees_goal h part.0 (subst
            (λ (e : Dir). HoldsOnRun g e v (λ u. u ≡ goal)) part.1 (record {
              moves = j;
              some = i;
              cell = run.0;
              reached = run.1;
              holds = there run.0 onward.moved;
            }));
      }

  sound : 1 ≤ near → is_clear entry near ≡ true → sees_from (cell_after d near x) ≡ true
      → StopsAfter g goal x d near
  sound i c sees =
      let run = clear_run g x d entry (entry_tells g x d f) near i c in
      let walk = run_walked g d near x run.0 f run.1 in
      let here : run.0 ≡ cell_after d near x = moved_to d near x run.0 walk.moved in
      by_columns run.0 run.1 walk.moved i (ap (λ (v : Cell). sees_from v) here ∙ sees)
    where
      by_rows : (v : Cell) → run_end g d near x ≡ Some v → AreMoved d near x v → 1 ≤ near
          → (b : Bool) → nat_lt rows columns ≡ b → nat_eq columns rows ≡ false
          → (if b then is_clear (table_entry g v (row_part d)) (columns - rows)
          else is_clear (table_entry g v (column_part d)) (rows - columns)) ≡ true
          → StopsAfter g goal x d near
      by_rows v r m i true e other c =
          grind (arith, nat_tests, more_columns, on_run, near, row_part-side, row_leads)
      by_rows v r m i false e other c =
          grind (arith, nat_tests, more_rows, on_run, near, column_part-side, column_leads)

      by_columns : (v : Cell) → run_end g d near x ≡ Some v → AreMoved d near x v → 1 ≤ near
          → sees_from v ≡ true → StopsAfter g goal x d near
      by_columns v r m i sees = by_test (nat_eq columns rows)
          (λ e. let split = as_many columns rows e in record {
            cell = v;
            reached = r;
            stops = at_goal (comes_there d near x v goal h i split.0 split.1 m);
          })
          (λ e. by_rows v r m i (nat_lt rows columns) refl e
          (ap (λ (b : Bool). if b then true
          else if nat_lt rows columns then is_clear (table_entry g v (row_part d)) (columns - rows)
          else is_clear (table_entry g v (column_part d)) (rows - columns)) (sym e) ∙ sees))

  -- a cell that is not marked sees no mark in a component
  unmarked_aside : (v : Cell) (k : ℕ) → 1 ≤ k → is_clear entry k ≡ true → run_end g d k x ≡ Some v
      → (s : Side)
      → (j : ℕ) → 1 ≤ j → MarkedAfter g v (turn s d) j → ⊥
  unmarked_aside v k i c r s j l m = clear_unmarked g x d entry (entry_tells g x d f) k i c (record {
    cell = v;
    reached = r;
    marks = looks_out h s (record {
      moves = j;
      some = l;
      cell = m.cell;
      reached = m.reached;
      holds = forced_there m.cell m.marks;
    });
  })
    where
      not_diagonal : is_diagonal (turn s d) ≡ false
      not_diagonal = turn_parity s d ∙ ap not h

      forced_there : (w : Cell) → IsMarked g w (turn s d) → is_forced g w (turn s d) ≡ true
      forced_there w (forces e) = e
      forced_there w (looks_out e t run) = let straight = not_diagonal in absurd (cc)

  -- so what it sees tells of the goal
  seen : (v : Cell) (k m : ℕ) (e : Dir) → 1 ≤ m → Sighted d k m x goal e
      → is_clear (table_entry g v e) m ≡ true → (k ≡ near) × (sees_from v ≡ true)
  seen v k m e p i j = grind (arith, nat_tests)

  come : (v : Cell) (k : ℕ) → columns ≡ k → rows ≡ k → (k ≡ near) × (sees_from v ≡ true)
  come v k p q = let there = met columns rows k p q in (there.0, rw there.1 refl)

  by_stop : (k : ℕ) → 1 ≤ k → is_clear entry k ≡ true → (v : Cell) → run_end g d k x ≡ Some v
      → IsStop g goal d v → (k ≡ near) × (sees_from v ≡ true)
  by_stop k i c v r (at_goal e) =
      let walk = run_walked g d k x v f r in
      let there = come_to d k x goal h (subst (λ (w : Cell). AreMoved d k x w) e walk.moved) in
      come v k there.0 there.1
  by_stop k i c v r (marked m) = absurd (clear_unmarked g x d entry (entry_tells g x d f) k i c
      (record { cell = v; reached = r; marks = m }))
  by_stop k i c v r (sees_goal diagonal s run) =
      let walk = run_walked g d k x v f r in
      let onward = run_walked g (turn s d) run.moves v run.cell walk.free run.reached in
      seen v k run.moves (turn s d) run.some
      (sighted d s k run.moves x v goal h walk.moved
      (subst (λ (w : Cell). AreMoved (turn s d) run.moves v w) run.holds onward.moved))
      (clear_where g v run.cell (turn s d) (table_entry g v (turn s d)) (entry_tells g v (turn s d) walk.free)
      run.moves run.some run.reached (λ j l m. unmarked_aside v k i c r s j l m))

  complete : (k : ℕ) → 1 ≤ k → is_clear entry k ≡ true → StopsAfter g goal x d k
      → (k ≡ near) × (sees_from (cell_after d near x) ≡ true)
  complete k i c stop =
      let there = by_stop k i c stop.cell stop.reached stop.stops in
      let walk = run_walked g d k x stop.cell f stop.reached in
      let here : stop.cell ≡ cell_after d near x =
      moved_to d k x stop.cell walk.moved ∙ ap (λ (n : ℕ). cell_after d n x) there.0 in
      grind (arith, nat_tests)

  pub diagonal_goal : IsGoalStop g goal x d entry near (sees_from (cell_after d near x))
  diagonal_goal = record { sound = sound; complete = complete }
