-- The layers that edits leave, and the reply to an edit. The last edit that names a cell decides on it.
use Rattle.std.specs.Prelude.{◌≡◌, ℕ, Bool, true, false, nat_eq, ◌&&◌, if◌then◌else◌, refl, List, []}
use Rattle.std.specs.Prelude.{◌∷◌, map, reverse, codes}
use Rattle.std.specs.List.{find, enumerate_from}
use Rattle.std.specs.Option.{option_map_or}
use Rattle.grid_moves.specs.declared.Cell.{Cell}
use Rattle.grid_moves.specs.declared.Corner.TheVariants.{Never}
use Rattle.grid_moves.specs.declared.Ground.{Ground}
use Rattle.grid_moves.specs.declared.Ground.TheVariants.{Blocked, Land, Water}
use Rattle.grid_moves.specs.Grid.{GridData, cell_number, is_ground, is_inside}
use Rattle.grid_moves.specs.Layers.{Layers, ground_at, is_on_map, layers_of, shore}
use Rattle.edit_replay.specs.declared.reply.EditReply.{EditReply}
use Rattle.edit_replay.specs.declared.reply.EditReply.TheVariants.{Done, Same, Outside}

-- an edit asks that a cell be blocked, land or water
pub record Edit : Type 0 where
  pub cell : Cell
  pub to : Ground

-- the edit of the cell in this column and row
abbrev pub edit_at : ℕ → ℕ → Ground → Edit
edit_at x y to = record { cell = record { x = x; y = y }; to = to }

-- the edit's cell is the map's cell of this number; one that lies outside is no cell of the map
abbrev pub names : GridData → Edit → ℕ → Bool
names g edit number = is_inside g edit.cell && nat_eq (cell_number g.width edit.cell) number

-- whether the last edit that names the cell of this number asks this ground; where none does, how the cell is
abbrev pub asked : Ground → GridData → List Edit → ℕ → Bool → Bool
asked kind g edits number free = option_map_or (λ edit. is_ground kind edit.to)
    (find (λ edit. names g edit number) (reverse edits)) free

-- the grid of one ground after edits: sides and corner rule stay, and the last edit that names a cell decides
unfoldable pub edited_layer : Ground → GridData → List Edit → GridData
edited_layer kind g edits = record {
  width = g.width;
  height = g.height;
  corner = g.corner;
  free = map (λ cell. asked kind g edits cell.0 cell.1) (enumerate_from 0 g.free);
}

-- the layers after edits
abbrev pub edited : Layers → List Edit → Layers
edited ls edits = record {
  land = edited_layer Land ls.land edits;
  water = edited_layer Water ls.water edits;
}

-- the reply to an edit: outside where its cell is, else whether the cell is already as asked
abbrev pub edit_reply : Layers → Edit → EditReply
edit_reply ls edit =
    if is_on_map ls edit.cell then if is_ground (ground_at ls edit.cell) edit.to then Same else Done
    else Outside

-- the map `.@./.../.@.`, and edits of it
abbrev two_pillars : Layers
two_pillars = layers_of Never 3 3 (codes ".@.....@.")

abbrev block_middle : Edit
block_middle = edit_at 1 1 Blocked

abbrev free_middle : Edit
free_middle = edit_at 1 1 Land

-- blocked, the middle parts the columns
pub blocked_middle : (edited two_pillars (block_middle ∷ [])).land.free
    ≡ true ∷ false ∷ true ∷ true ∷ false ∷ true ∷ true ∷ false ∷ true ∷ []
unfolding edited_layer
blocked_middle = refl

-- of two edits of one cell the last one wins
pub blocked_then_freed : (edited two_pillars (block_middle ∷ free_middle ∷ [])).land.free
    ≡ two_pillars.land.free
unfolding edited_layer
blocked_then_freed = refl

pub freed_then_blocked : (edited two_pillars (free_middle ∷ block_middle ∷ [])).land.free
    ≡ (edited two_pillars (block_middle ∷ [])).land.free
unfolding edited_layer
freed_then_blocked = refl

-- an edit outside names no cell, though column 3 of the top row would count as column 0 of the next
pub blocked_outside : (edited two_pillars (edit_at 3 0 Blocked ∷ [])).land.free ≡ two_pillars.land.free
unfolding edited_layer
blocked_outside = refl

-- the middle is blocked, freed and freed again, and then a cell outside is blocked
pub first_reply : edit_reply two_pillars block_middle ≡ Done
first_reply = refl

pub second_reply : edit_reply (edited two_pillars (block_middle ∷ [])) free_middle ≡ Done
unfolding edited_layer
second_reply = refl

pub third_reply : edit_reply (edited two_pillars (block_middle ∷ free_middle ∷ [])) free_middle ≡ Same
unfolding edited_layer
third_reply = refl

pub fourth_reply : edit_reply (edited two_pillars (block_middle ∷ free_middle ∷ free_middle ∷ []))
    (edit_at 3 0 Blocked)
    ≡ Outside
unfolding edited_layer
fourth_reply = refl

-- on the map `.WW/.WW` the upper left cell is flooded, and flooded again; the next one is freed, and the
-- last one of the row is blocked
abbrev flood_corner : Edit
flood_corner = edit_at 0 0 Water

abbrev shore_edits : List Edit
shore_edits = flood_corner ∷ edit_at 1 0 Land ∷ edit_at 2 0 Blocked ∷ []

pub shore_land : (edited shore shore_edits).land.free
    ≡ false ∷ true ∷ false ∷ true ∷ false ∷ false ∷ []
unfolding edited_layer
shore_land = refl

pub shore_water : (edited shore shore_edits).water.free
    ≡ true ∷ false ∷ false ∷ false ∷ true ∷ true ∷ []
unfolding edited_layer
shore_water = refl

pub flooded_again : edit_reply (edited shore (flood_corner ∷ [])) flood_corner ≡ Same
unfolding edited_layer
flooded_again = refl

-- water was no land to be blocked before: blocking it changes it
pub water_blocked : edit_reply shore (edit_at 2 0 Blocked) ≡ Done
water_blocked = refl
