-- Bits of a map: lines of words, with a border of blocked cells on every side.
use Rattle.std.specs.Prelude.{◌≡◌, ℕ, zero, suc, ◌+◌, ◌*◌, ◌<◌, ◌≤◌, Bool, true, false, ◌&&◌, nat_eq}
use Rattle.std.specs.Prelude.{if◌then◌else◌, refl, List, [], ◌∷◌, slice_index_or}
use Rattle.grid_moves.specs.Bits.{is_set}
use Rattle.grid_moves.specs.declared.Cell.{Cell}
use Rattle.grid_moves.specs.declared.Corner.{Corner}
use Rattle.grid_moves.specs.declared.Corner.TheVariants.{Never}
use Rattle.grid_moves.specs.Grid.{GridData, IsGrid, is_free}
use Rattle.grid_moves.specs.Examples.{notch}

-- the cell is free, where columns and rows count from 1: column 0 and row 0 are the border, as is all beyond
-- the map
abbrev pub is_free_from_one : GridData → ℕ → ℕ → Bool
is_free_from_one g zero y = false
is_free_from_one g (suc x) zero = false
is_free_from_one g (suc x) (suc y) = is_free g (record { x = x; y = y })

-- so many lines, of so many blocks each; a block is eight words of 64 bits, and the lines follow one another
pub record LineData : Type 0 where
  pub lines : ℕ
  pub blocks : ℕ
  pub words : List ℕ

-- word w of a line
abbrev pub word_of : LineData → ℕ → ℕ → ℕ
word_of l line w = slice_index_or l.words (line * (l.blocks * 8) + w) 0

-- The lines show so many lines of so many cells each and the border round them: in each line the bit at a
-- position is set where the cell there is free. Position p is bit p % 64 of word p / 64.
pub record Shows (l : LineData) (lines positions : ℕ) (free : ℕ → ℕ → Bool) : Type 0 where
  pub bordered : l.lines ≡ lines + 2
  pub ample : positions + 2 ≤ l.blocks * 512
  pub tight : l.blocks * 512 < positions + 514
  pub bits : (line w j : ℕ) → line < l.lines → w < l.blocks * 8 → j < 64
      → is_set (word_of l line w) j ≡ free line (w * 64 + j)

-- the lines are a grid's rows, and a row's positions its columns
abbrev pub AreRowsOf : LineData → GridData → Type 0
AreRowsOf l g = Shows l g.height g.width (λ line position. is_free_from_one g position line)

-- the lines are a grid's columns, and a column's positions its rows
abbrev pub AreColumnsOf : LineData → GridData → Type 0
AreColumnsOf l g = Shows l g.width g.height (λ line position. is_free_from_one g line position)

-- rows and columns, and beside them the sides and the corner rule
pub record BitData : Type 0 where
  pub width : ℕ
  pub height : ℕ
  pub corner : Corner
  pub rows : LineData
  pub columns : LineData

-- the bits are a grid's
pub record AreBitsOf (b : BitData) (g : GridData) : Type 0 where
  pub whole : IsGrid g
  pub wide : b.width ≡ g.width
  pub high : b.height ≡ g.height
  pub rule : b.corner ≡ g.corner
  pub rows : AreRowsOf b.rows g
  pub columns : AreColumnsOf b.columns g

-- there are the map's rows and columns and the border's, each row has a bit for each of the columns, and each
-- column one for each of the rows
pub record HasRoom (b : BitData) : Type 0 where
  pub rows : b.rows.lines ≡ b.height + 2
  pub columns : b.columns.lines ≡ b.width + 2
  pub in_rows : b.width + 2 ≤ b.rows.blocks * 512
  pub in_columns : b.height + 2 ≤ b.columns.blocks * 512

-- the cell lies on the map
pub record IsOnMap (b : BitData) (c : Cell) : Type 0 where
  pub column : c.x < b.width
  pub row : c.y < b.height

-- a cell is made free or blocked, and all others stay
abbrev pub with_cell : (ℕ → ℕ → Bool) → ℕ → ℕ → Bool → ℕ → ℕ → Bool
with_cell free line position now l p = if nat_eq l line && nat_eq p position then now else free l p

-- of the row `.@...` and its border the first eight bits, from the lowest
pub row_of_the_notch : is_free_from_one (notch Never) 0 2 ∷ is_free_from_one (notch Never) 1 2
    ∷ is_free_from_one (notch Never) 2 2 ∷ is_free_from_one (notch Never) 3 2
    ∷ is_free_from_one (notch Never) 6 2 ∷ is_free_from_one (notch Never) 3 3 ∷ []
    ≡ false ∷ true ∷ false ∷ true ∷ false ∷ false ∷ []
row_of_the_notch = refl
