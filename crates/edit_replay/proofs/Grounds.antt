-- Which cells lie on the map, and which of them are free.
use Rattle.std.proofs.Common.{◌≡◌, arith, true, ◌&&◌}
use Rattle.std.proofs.lemmas.Bool.Decides.{nat_tests}
use Rattle.grid_moves.specs.declared.Cell.{Cell}
use Rattle.grid_moves.specs.Layers.{AreLayers, Layers, in_one_layer, is_free_ground, is_on_map}
use Rattle.grid_moves.specs.Reply.{are_free_ends}
use Rattle.grid_moves.proofs.Layering.{is_inside-water}

module _ (ls : Layers) (are : AreLayers ls) where
  -- a cell that is land or water lies on the map
  pub ground_on : (c : Cell) → is_free_ground ls c ≡ true → is_on_map ls c ≡ true
  ground_on c free = grind (arith, nat_tests, is_inside-water)

  pub ends_on : (s t : Cell) → are_free_ends ls s t ≡ true → (is_on_map ls s && is_on_map ls t) ≡ true
  ends_on s t free = grind (arith, nat_tests, ground_on)

  -- ends in one layer are free
  pub ends_free : (s t : Cell) → in_one_layer ls s t ≡ true → are_free_ends ls s t ≡ true
  ends_free s t one = grind (arith, nat_tests)
