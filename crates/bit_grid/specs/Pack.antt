-- Rows packed to words.
use Rattle.std.specs.Prelude.{◌≡◌, ℕ, ◌+◌, ◌*◌, ◌<◌, Bool, List, length, slice_index_or}
use Rattle.grid_moves.specs.Grid.{GridData}
use Rattle.grid_moves.specs.Bits.{is_set}
use Rattle.bit_grid.specs.Bits.{is_free_from_one}

-- the cell at a position of a row is free
abbrev pub is_free_in : GridData → ℕ → ℕ → Bool
is_free_in g line position = is_free_from_one g position line

-- of the bytes, the first is 0, and so are all past the grid's columns
abbrev pub IsBordered : GridData → List ℕ → Type 0
IsBordered g bytes = (slice_index_or bytes 0 0 ≡ 0)
    × ((p : ℕ) → g.width < p → p < length bytes → slice_index_or bytes p 0 ≡ 0)

-- the lowest bit of each byte tells whether the cell at that position of the row is free
abbrev pub AreFlags : GridData → ℕ → List ℕ → Type 0
AreFlags g line bytes = (p : ℕ) → p < length bytes → is_set (slice_index_or bytes p 0) 0 ≡ is_free_in g line p

-- the words show this many rows, so many words each, one row after the other
abbrev pub ArePacked : GridData → ℕ → ℕ → List ℕ → Type 0
ArePacked g lines per_line words =
    (line w : ℕ) → line < lines → w < per_line → (j : ℕ) → j < 64
    → is_set (slice_index_or words (line * per_line + w) 0) j ≡ is_free_in g line (w * 64 + j)
