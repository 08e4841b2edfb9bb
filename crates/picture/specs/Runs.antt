-- The longest runs of marked cells of a row.
use Rattle.std.specs.Prelude.{◌≡◌, ℕ, ◌+◌, ◌≤◌, Bool, true, false, nat_lt, nat_le, ◌==◌, ◌&&◌, if◌then◌else◌}
use Rattle.std.specs.Prelude.{List, [], ◌∷◌, slice_index_or, ⊤}
use Rattle.std.specs.List.{list_any}

-- cells of a row beside one another: the column of the first one, from 0, and how many they are
pub record Run : Type 0 where
  pub from : ℕ
  pub long : ℕ

-- runs with the cell of a column before them: it joins the first run where that begins in the next column,
-- else it is a run of its own
abbrev pub with_cell : ℕ → List Run → List Run
with_cell x [] = record { from = x; long = 1 } ∷ []
with_cell x (run ∷ runs) =
    if run.from == x + 1 then record { from = x; long = run.long + 1 } ∷ runs
    else record { from = x; long = 1 } ∷ run ∷ runs

-- the longest runs of marked cells in the part of a row that begins in this column, by a mark for each
-- cell
abbrev pub runs_from : ℕ → List Bool → List Run
runs_from x [] = []
runs_from x (true ∷ marks) = with_cell x (runs_from (x + 1) marks)
runs_from x (false ∷ marks) = runs_from (x + 1) marks

-- whether a run has the cell of a column
abbrev pub has_cell : ℕ → Run → Bool
has_cell x run = nat_le run.from x && nat_lt x (run.from + run.long)

-- runs in order from a column on: each has a cell, and a cell stands between it and the next one
abbrev pub AreApart : ℕ → List Run → Type 0
AreApart x [] = ⊤
AreApart x (run ∷ runs) = (x ≤ run.from) × (1 ≤ run.long) × AreApart (run.from + run.long + 1) runs

-- the longest runs of marked cells of a row: their cells are the marked ones, and they are in order and apart
pub record AreLongestRuns (marks : List Bool) (runs : List Run) : Type 0 where
  pub cells : (x : ℕ) → list_any (has_cell x) runs ≡ slice_index_or marks x false
  pub apart : AreApart 0 runs

-- the longest runs are these, and no others are
pub record AreRunsOf (marks : List Bool) (runs : List Run) : Type 0 where
  pub are : AreLongestRuns marks runs
  pub only : (others : List Run) → AreLongestRuns marks others → others ≡ runs
