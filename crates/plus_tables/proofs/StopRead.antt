-- The stop that is read from tables is the first.
use Rattle.std.proofs.Common.{◌≡◌, ℕ, arith, true, false}
use Rattle.std.proofs.lemmas.Bool.Decides.{nat_tests}
use Rattle.grid_moves.specs.declared.Cell.{Cell}
use Rattle.grid_moves.specs.declared.Dir.{Dir}
use Rattle.grid_moves.specs.Grid.{GridData, is_free, is_inside}
use Rattle.grid_moves.specs.Move.{cell_after}
use Rattle.grid_moves.proofs.Legal.{and_both}
use Rattle.pruning.specs.Turns.{is_diagonal}
use Rattle.pruning.specs.Stop.{IsFirstStop}
use Rattle.pruning.proofs.Table.{by_parity}
use Rattle.plus_tables.specs.Entry.{table_entry}
use Rattle.plus_tables.specs.Tables.{TablesData, AreTablesOf, entry_at}
use Rattle.plus_tables.specs.Reading.{columns_to, rows_to, near_to, sees_goal, stop_read}
use Rattle.plus_tables.proofs.Clear.{entry_tells}
use Rattle.plus_tables.proofs.Stops.{stop_by-first}
use Rattle.plus_tables.proofs.Goals.{straight_goal, diagonal_goal}

pub free_is_inside : (g : GridData) (c : Cell) → is_free g c ≡ true → is_inside g c ≡ true
free_is_inside g c f = (and_both (is_inside g c) _ f).0

-- between two cells of the map lies the cell where the row or column of the one is met
inside_after : (g : GridData) (u goal : Cell) (d : Dir) → is_diagonal d ≡ true → is_inside g u ≡ true
    → is_inside g goal ≡ true → is_inside g (cell_after d (near_to d u goal) u) ≡ true
inside_after g u goal d h i j = grind (arith, nat_tests)

module _ (t : TablesData) (g : GridData) (right : AreTablesOf t g) (goal x : Cell) (d : Dir)
    (f : is_free g x ≡ true) (k : is_free g goal ≡ true) where
  straight_first : is_diagonal d ≡ false → IsFirstStop g goal x d (stop_read (entry_at t) x d goal)
  straight_first h = grind (arith, nat_tests, free_is_inside, stop_by-first, entry_tells, straight_goal)

  -- the entries at a cell of the map are the grid's
  sees_same : (v : Cell) → is_inside g v ≡ true → (columns rows : ℕ)
      → sees_goal (entry_at t) d v columns rows ≡ sees_goal (table_entry g) d v columns rows
  sees_same v inside columns rows = grind (arith, nat_tests)

  diagonal_first : is_diagonal d ≡ true → IsFirstStop g goal x d (stop_read (entry_at t) x d goal)
  diagonal_first h =
      let inside = inside_after g x goal d h (free_is_inside g x f) (free_is_inside g goal k) in
      rw (
        h,
        right.right x d (free_is_inside g x f),
        sees_same (cell_after d (near_to d x goal) x) inside (columns_to d x.x goal.x) (rows_to d x.y goal.y),
      ) (stop_by-first g goal x d (table_entry g x d) (entry_tells g x d f) (near_to d x goal)
      (sees_goal (table_entry g) d (cell_after d (near_to d x goal) x) (columns_to d x.x goal.x)
      (rows_to d x.y goal.y))
      (diagonal_goal g goal x d f h))

  pub stop_read-first : IsFirstStop g goal x d (stop_read (entry_at t) x d goal)
  stop_read-first = by_parity d diagonal_first straight_first
