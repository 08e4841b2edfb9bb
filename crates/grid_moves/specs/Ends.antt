-- What two cells that are asked for come to.
use Rattle.std.specs.Prelude.{◌≡◌, ◌&&◌, true, false, refl}
use Rattle.grid_moves.specs.declared.Cell.{Cell}
use Rattle.grid_moves.specs.declared.ends.Ends.{Ends}
use Rattle.grid_moves.specs.declared.ends.Unsearched.{Unsearched}
use Rattle.grid_moves.specs.declared.ends.Unsearched.TheVariants.{Outside, Blocked, Apart}
use Rattle.grid_moves.specs.declared.Ground.TheVariants as ground
use Rattle.grid_moves.specs.Layers.{Layers, in_one_layer, is_on_map, layers_with, shore}
use Rattle.grid_moves.specs.Reply.{are_free_ends}

-- the cells that were asked for are the ends of a query, and both are free on its grid
pub record AreEnds (ls : Layers) (s t : Cell) (ends : Ends) : Type 0 where
  pub from : ends.from ≡ s
  pub to : ends.to ≡ t
  pub on : (is_on_map ls s && is_on_map ls t) ≡ true
  pub free : are_free_ends ls s t ≡ true
  pub one : in_one_layer ls s t ≡ true

-- they are the ends of a query that leads from one layer to the other
pub record AreApart (ls : Layers) (s t : Cell) (ends : Ends) : Type 0 where
  pub from : ends.from ≡ s
  pub to : ends.to ≡ t
  pub on : (is_on_map ls s && is_on_map ls t) ≡ true
  pub free : are_free_ends ls s t ≡ true
  pub two : in_one_layer ls s t ≡ false

-- nothing is searched between them, for this reason
abbrev pub IsUnsearched : Layers → Cell → Cell → Unsearched → Type 0
IsUnsearched ls s t Outside = (is_on_map ls s && is_on_map ls t) ≡ false
IsUnsearched ls s t Blocked = ((is_on_map ls s && is_on_map ls t) ≡ true) × (are_free_ends ls s t ≡ false)
IsUnsearched ls s t (Apart ends) = AreApart ls s t ends

-- worked rows on the map `.WW/.WW`: along its land, from its land to its water, onto a block, outside, and
-- from outside onto a block
abbrev pub land_and_water : Ends
land_and_water = record { from = record { x = 0; y = 0 }; to = record { x = 1; y = 1 } }

pub down_the_land : AreEnds shore (record { x = 0; y = 0 }) (record { x = 0; y = 1 })
    (record { from = record { x = 0; y = 0 }; to = record { x = 0; y = 1 } })
down_the_land = record { from = refl; to = refl; on = refl; free = refl; one = refl }

pub from_land_to_water : IsUnsearched shore land_and_water.from land_and_water.to (Apart land_and_water)
from_land_to_water = record { from = refl; to = refl; on = refl; free = refl; two = refl }

pub onto_a_block : IsUnsearched
    (layers_with shore (record { x = 1; y = 1 }) ground.Blocked) land_and_water.from
    land_and_water.to Blocked
onto_a_block = (refl, refl)

pub off_the_map : IsUnsearched shore (record { x = 0; y = 2 }) (record { x = 1; y = 1 }) Outside
off_the_map = refl

pub off_the_map_onto_a_block : IsUnsearched (layers_with shore (record { x = 1; y = 1 }) ground.Blocked)
    (record { x = 0; y = 2 }) (record { x = 1; y = 1 }) Outside
off_the_map_onto_a_block = refl
