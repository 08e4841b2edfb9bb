-- What is seen of each cell.
use Rattle.std.specs.Prelude.{◌≡◌, ℕ, ◌<◌, Bool, true, ◌↔◌, List, length, slice_index, Some, None, IsTrue}
use Rattle.std.specs.List.{list_all, list_any}
use Rattle.map_text.specs.Map.{is_terrain}
use Rattle.picture.specs.declared.kinds.DrawnGround.{DrawnGround}
use Rattle.picture.specs.Runs.{has_cell, runs_from, AreRunsOf}
use Rattle.picture.specs.Grounds.{is_background, ground_of, runs_of}

-- whether a stroke of the ground goes over the cell of this column
abbrev pub is_drawn : DrawnGround → List ℕ → ℕ → Bool
is_drawn kind row x = list_any (has_cell x) (runs_of kind row)

-- the runs of a row of marks are its longest ones, and the only ones
abbrev pub RunsAreLongest : Type 0
RunsAreLongest = (marks : List Bool) → AreRunsOf marks (runs_from 0 marks)

-- a cell of a row of a map lies under the strokes of its own ground and of no other; it lies under none
-- exactly where it is background
pub record IsDrawnOnce (row : List ℕ) (x : ℕ) : Type 0 where
  pub strokes : (kind : DrawnGround)
      → (is_drawn kind row x ≡ true) ↔ (ground_of (slice_index row x) ≡ Some kind)
  pub none : (is_background (slice_index row x) ≡ true) ↔ (ground_of (slice_index row x) ≡ None)

abbrev pub CellsAreDrawnOnce : Type 0
CellsAreDrawnOnce =
    (row : List ℕ) → IsTrue (list_all is_terrain row) → (x : ℕ) → x < length row → IsDrawnOnce row x
