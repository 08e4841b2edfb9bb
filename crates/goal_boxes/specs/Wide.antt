-- The cells that a scan has seen. No public clause cites this module.
use Rattle.std.specs.Prelude.{◌≡◌, ◌+◌, ◌<◌, ◌≤◌, ◌⊎◌, ℕ, true, false}
use Rattle.grid_moves.specs.declared.Cell.{Cell}
use Rattle.grid_moves.specs.declared.Dir.{Dir}
use Rattle.cost_waves.specs.Stored.{WaveData, begins_with}

-- a cell of a kind that a scan over rows of this width has met: it lies in a row before y, or in that row
-- before column x
pub record Scanned (width : ℕ) (P : Cell → Type 0) (y x : ℕ) (c : Cell) : Type 0 where
  pub column : c.x < width
  pub kind : P c
  pub before : (c.y < y) ⊎ ((c.y ≡ y) × (c.x < x))

-- by the waves some least walk to the cell begins with a move in the direction
abbrev pub IsReached : WaveData → Dir → Cell → Type 0
IsReached w d c = begins_with w c d ≡ true

-- and a scan has met it
abbrev pub Met : WaveData → Dir → ℕ → ℕ → Cell → Type 0
Met w d y x c = Scanned w.width (IsReached w d) y x c

-- no cell of row y from column `low` on and before column `high` is reached so
abbrev pub NoneReached : WaveData → Dir → ℕ → ℕ → ℕ → Type 0
NoneReached w d y low high = (x : ℕ) → low ≤ x → x < high → begins_with w (record { x = x; y = y }) d ≡ false

-- the first column of row y whose cell is reached so
pub record IsFirstReached (w : WaveData) (d : Dir) (y first : ℕ) : Type 0 where
  pub within : first < w.width
  pub reached : IsReached w d (record { x = first; y = y })
  pub none_before : NoneReached w d y 0 first

-- and the last one
pub record IsLastReached (w : WaveData) (d : Dir) (y first last : ℕ) : Type 0 where
  pub within : last < w.width
  pub ordered : first ≤ last
  pub reached : IsReached w d (record { x = last; y = y })
  pub none_after : NoneReached w d y (last + 1) w.width
