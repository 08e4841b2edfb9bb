-- How a grid lies in memory: with a border of blocked cells around it. What a `Grid` stands for is told by
-- it. Columns and rows are counted from 1 here, and the border stands before the first ones and behind the
-- last ones. What stands behind the last column is the place before the first one of the next row.
use Rattle.std.specs.Prelude.{◌≡◌, ℕ, zero, suc, ◌+◌, ◌*◌, ◌/◌, ◌%◌, ◌≤◌, Bool, false, List, [], ◌∷◌}
use Rattle.std.specs.Prelude.{length, slice_index_or, true, refl}
use Rattle.grid_moves.specs.declared.Cell.{Cell}
use Rattle.grid_moves.specs.declared.Corner.{Corner}
use Rattle.grid_moves.specs.declared.Dir.{Dir}
use Rattle.grid_moves.specs.declared.Dir.TheVariants.{N, NE, E, SE, S, SW, W, NW}
use Rattle.grid_moves.specs.Grid.{GridData, IsGrid, is_free}

-- the place of a column and row, in a grid that is so many columns wide
abbrev pub place_of : ℕ → ℕ → ℕ → ℕ
place_of width x y = y * (width + 1) + x

-- the number of places
abbrev pub places : ℕ → ℕ → ℕ
places width height = (height + 2) * (width + 1) + 1

-- what stands at a column and row: none of the border is free
abbrev pub stored : (Cell → Bool) → ℕ → ℕ → Bool
stored free zero y = false
stored free (suc x) zero = false
stored free (suc x) (suc y) = free (record { x = x; y = y })

-- the column and the row ahead of a cell
abbrev pub column_of : Dir → ℕ → ℕ
column_of N x = suc x
column_of NE x = suc (x + 1)
column_of E x = suc (x + 1)
column_of SE x = suc (x + 1)
column_of S x = suc x
column_of SW x = x
column_of W x = x
column_of NW x = x

abbrev pub row_of : Dir → ℕ → ℕ
row_of N y = y
row_of NE y = y
row_of E y = suc y
row_of SE y = suc (y + 1)
row_of S y = suc (y + 1)
row_of SW y = suc (y + 1)
row_of W y = suc y
row_of NW y = y

-- the first values of a function, so many
abbrev pub listed : (ℕ → Bool) → ℕ → List Bool
listed f zero = []
listed f (suc n) = f 0 ∷ listed (λ k. f (suc k)) n

-- for each cell, by its number, what stands at its place
abbrev pub inner : ℕ → ℕ → List Bool → List Bool
inner width height cells = listed
    (λ k. slice_index_or cells (place_of width (suc (k % width)) (suc (k / width))) false) (height * width)

abbrev pub grid_in : ℕ → ℕ → Corner → List Bool → GridData
grid_in width height corner cells =
    record { width = width; height = height; corner = corner; free = inner width height cells }

-- the places tell what is free
abbrev pub AreStored : ℕ → (Cell → Bool) → List Bool → Type 0
AreStored width free cells =
    (x y : ℕ) → x ≤ width → slice_index_or cells (place_of width x y) false ≡ stored free x y

-- the grid lies so in memory
pub record IsPadded (g : GridData) (cells : List Bool) : Type 0 where
  pub grid : IsGrid g
  pub long : length cells ≡ places g.width g.height
  pub stored : AreStored g.width (is_free g) cells

-- a worked row: of the map `.@` only the first cell is free, at the place behind the row above and the border
pub two_cells : inner 2 1 (false ∷ false ∷ false ∷ false ∷ true ∷ false ∷ false ∷ false ∷ false ∷ false ∷ [])
    ≡ true ∷ false ∷ []
two_cells = refl

pub ten_places : places 2 1 ≡ 10
ten_places = refl
