-- What holds while a map is flooded. No public clause cites this module.
use Rattle.std.specs.Prelude.{◌≡◌, ◌≢◌, ℕ, ◌+◌, ◌*◌, ◌<◌, ◌⊎◌, true, List, [], length, slice_index}
use Rattle.std.specs.List.{Contains}
use Rattle.grid_moves.specs.declared.Cell.{Cell}
use Rattle.grid_moves.specs.Grid.{GridData, cell_number, is_free, is_inside}
use Rattle.grid_moves.specs.Move.{is_legal}
use Rattle.joined_cells.specs.Joined.{IsJoined}

-- the label of a cell on the map
abbrev pub label_at : GridData → List ℕ → Cell → ℕ
label_at g labels c = slice_index labels (cell_number g.width c)

-- the label is one more than the number of a cell from which a walk leads to this one
pub record IsNamed (g : GridData) (c : Cell) (label : ℕ) : Type 0 where
  pub first : Cell
  pub free : is_free g first ≡ true
  pub is : label ≡ cell_number g.width first + 1
  pub joined : IsJoined g first c

-- a cell that waits is free, and has the label of the flood
pub record Waits (g : GridData) (label : ℕ) (labels : List ℕ) (c : Cell) : Type 0 where
  pub free : is_free g c ≡ true
  pub has : label_at g labels c ≡ label

-- In a flood with this label: each label names a cell, and where a legal move leads from a labelled cell that
-- does not wait, its end has the same label.
pub record Keeps (g : GridData) (label : ℕ) (waiting : List Cell) (labels : List ℕ) : Type 0 where
  pub whole : length labels ≡ g.height * g.width
  pub named : (c : Cell) → is_inside g c ≡ true → label_at g labels c ≢ 0
      → IsNamed g c (label_at g labels c)
  pub waits : (c : Cell) → Contains waiting c → Waits g label labels c
  pub spread : (u v : Cell) → is_legal g u v ≡ true → label_at g labels u ≢ 0
      → (label_at g labels v ≡ label_at g labels u) ⊎ Contains waiting u

-- no cell waits
abbrev pub IsSettled : GridData → List ℕ → Type 0
IsSettled g labels = Keeps g 0 [] labels

-- labels stay
abbrev pub Stay : GridData → List ℕ → List ℕ → Type 0
Stay g labels later = (c : Cell) → label_at g labels c ≢ 0 → label_at g later c ≡ label_at g labels c

-- the free cells of the rows above, and those of this row before the column, have labels
pub record AreLabelled (g : GridData) (row column : ℕ) (labels : List ℕ) : Type 0 where
  pub above : (c : Cell) → is_free g c ≡ true → c.y < row → label_at g labels c ≢ 0
  pub before : (c : Cell) → is_free g c ≡ true → c.y ≡ row → c.x < column → label_at g labels c ≢ 0
