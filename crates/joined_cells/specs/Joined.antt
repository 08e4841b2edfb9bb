-- Which cells belong together: those between which a walk leads.
use Rattle.std.specs.Prelude.{◌≡◌, ℕ, Bool, true, false, nat_lt, nat_eq, not, ◌&&◌, if◌then◌else◌, refl}
use Rattle.std.specs.Prelude.{List, [], ◌∷◌, slice_index, IsTrue, ◌↔◌}
use Rattle.grid_moves.specs.declared.Cell.{Cell}
use Rattle.grid_moves.specs.Grid.{GridData, cell_number}
use Rattle.grid_moves.specs.Walk.{IsWalk}

-- a walk leads from s to t
pub record IsJoined (g : GridData) (s t : Cell) : Type 0 where
  pub cells : List Cell
  pub walk : IsWalk g s t cells

-- the sides of a map, and for each cell, by its number, a label, or 0 for none
pub record Labels : Type 0 where
  pub width : ℕ
  pub height : ℕ
  pub labels : List ℕ

-- the label of a cell; none outside the map has one
abbrev pub label_of : Labels → Cell → ℕ
label_of p c = if nat_lt c.x p.width && nat_lt c.y p.height then slice_index p.labels (cell_number p.width c)
    else 0

-- both cells have one label
abbrev pub are_joined : Labels → Cell → Cell → Bool
are_joined p s t = not (nat_eq (label_of p s) 0) && nat_eq (label_of p s) (label_of p t)

-- the labels are right: two cells have one label exactly where a walk leads from one to the other
pub record TellsJoined (g : GridData) (p : Labels) : Type 0 where
  pub joined : (s t : Cell) → IsTrue (are_joined p s t) ↔ IsJoined g s t

-- a worked row: the map `..@.`, whose last cell is parted from the others
abbrev two_parts : Labels
two_parts = record { width = 4; height = 1; labels = 1 ∷ 1 ∷ 0 ∷ 4 ∷ [] }

pub side_by_side : are_joined two_parts (record { x = 0; y = 0 }) (record { x = 1; y = 0 }) ≡ true
side_by_side = refl

pub past_the_block : are_joined two_parts (record { x = 1; y = 0 }) (record { x = 3; y = 0 }) ≡ false
past_the_block = refl

-- a blocked cell is joined with none, nor is one outside
pub the_block_itself : are_joined two_parts (record { x = 2; y = 0 }) (record { x = 2; y = 0 }) ≡ false
the_block_itself = refl

pub below_the_map : are_joined two_parts (record { x = 0; y = 1 }) (record { x = 0; y = 1 }) ≡ false
below_the_map = refl
