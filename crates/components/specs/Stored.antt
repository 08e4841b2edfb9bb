-- How labels are kept. No public clause cites this module.
use Rattle.std.specs.Prelude.{◌≡◌, ℕ, ◌+◌, ◌*◌, ◌<◌, ◌≤◌, List, length, map, slice_index}
use Rattle.grid_moves.specs.declared.Cell.{Cell}
use Rattle.grid_moves.specs.declared.Corner.{Corner}
use Rattle.grid_moves.specs.Grid.{AreSides}
use Rattle.grid_moves.specs.Move.{may_slip}
use Rattle.joined_cells.specs.Joined.{Labels, label_of}
use Rattle.components.specs.Classes.{IsForest, root_of}
use Rattle.components.specs.declared.shape.Shape.{Shape}

-- labels of the cells of a map
abbrev pub labels_in : Shape → List ℕ → Labels
labels_in shape labels = record { width = shape.width; height = shape.height; labels = labels }

-- the same, each with the label that stands for its class
abbrev pub classes_in : Shape → List ℕ → List ℕ → Labels
classes_in shape labels classes = labels_in shape (map (root_of classes) labels)

-- the class of a cell
abbrev pub class_in : Shape → List ℕ → List ℕ → Cell → ℕ
class_in shape labels classes c = root_of classes (label_of (labels_in shape labels) c)

-- a label for each cell, and a class for each of these
pub record AreFit (shape : Shape) (labels classes : List ℕ) : Type 0 where
  pub sides : AreSides shape.width shape.height
  pub whole : length labels ≡ shape.height * shape.width
  pub forest : IsForest classes
  pub below : (k : ℕ) → slice_index labels k < length classes

-- a label of those given out for each cell, and a place in the forest for one more label than there are cells
pub record AreStored (shape : Shape) (used : ℕ) (labels classes : List ℕ) : Type 0 where
  pub sides : AreSides shape.width shape.height
  pub whole : length labels ≡ shape.height * shape.width
  pub room : length classes ≡ shape.height * shape.width + 1
  pub forest : IsForest classes
  pub below : (k : ℕ) → slice_index labels k ≤ used
  pub given : used < length classes

-- the same for a corner rule
pub record AreKept (shape : Shape) (corner : Corner) (used : ℕ) (labels classes : List ℕ) : Type 0 where
  pub stored : AreStored shape used labels classes
  pub eight : shape.eight ≡ may_slip corner
