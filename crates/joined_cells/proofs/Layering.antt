-- What both layers tell.
use Rattle.std.proofs.Common.{◌≡◌, refl, sym, subst, Bool, true, false, ◌&&◌, ◌||◌}
use Rattle.std.specs.Prelude.{if◌then◌else◌}
use Rattle.grid_moves.specs.declared.Cell.{Cell}
use Rattle.grid_moves.specs.Grid.{GridData, is_free}
use Rattle.grid_moves.specs.Layers.{Layers, AreLayers, query_grid, in_one_layer}
use Rattle.grid_moves.proofs.Short.{walk_free}
use Rattle.joined_cells.specs.Both.{BothLabels, TellsBoth, HasWalk, are_joined_in}
use Rattle.joined_cells.specs.Joined.{IsJoined, TellsJoined, are_joined}
use Rattle.joined_cells.proofs.Joining.{joined_back}

-- both ends of a walk are free
pub joined_free : (g : GridData) (s t : Cell) → IsJoined g s t → is_free g s ≡ true
joined_free g s t j = walk_free g s j.cells j.walk.legal

-- they are free on the grid of the query
pub joined_in_one_layer : (ls : Layers) (s t : Cell) → HasWalk ls s t → in_one_layer ls s t ≡ true
joined_in_one_layer ls s t j =
    let f = joined_free (query_grid ls s) s t j in
    let h = joined_free (query_grid ls s) t s (joined_back (query_grid ls s) s t j) in
    rw (f, h) refl

not_both : (a b : Bool) → (a && b) ≡ false → a ≡ true → b ≡ false
not_both a b e f = rw f at e

module _ (ls : Layers) (are : AreLayers ls) (p : BothLabels) (land : TellsJoined ls.land p.land)
    (water : TellsJoined ls.water p.water) where
  on_land : (s t : Cell) → IsJoined ls.land s t → HasWalk ls s t
  on_land s t j =
      let dry : is_free ls.water s ≡ false = not_both (is_free ls.land s) (is_free ls.water s) (are.apart s)
      (joined_free ls.land s t j) in
      subst (λ (b : Bool). IsJoined (if b then ls.water else ls.land) s t) (sym dry) j

  on_water : (s t : Cell) → IsJoined ls.water s t → HasWalk ls s t
  on_water s t j = subst (λ (b : Bool). IsJoined (if b then ls.water else ls.land) s t)
      (sym (joined_free ls.water s t j)) j

  joined_walk : (s t : Cell) → are_joined_in p s t ≡ true → HasWalk ls s t
  joined_walk s t e = by_tests (are_joined p.land s t) (are_joined p.water s t) refl refl e
    where
      by_tests : (a b : Bool) → are_joined p.land s t ≡ a → are_joined p.water s t ≡ b → (a || b) ≡ true
          → HasWalk ls s t
      by_tests true b q r h = on_land s t ((land.joined s t).0 q)
      by_tests false true q r h = on_water s t ((water.joined s t).0 r)
      by_tests false false q r h = absurd (let x : false ≡ true = h in cc)

  walk_joined : (s t : Cell) → HasWalk ls s t → are_joined_in p s t ≡ true
  walk_joined s t = by_test (is_free ls.water s)
    where
      by_test : (b : Bool) → IsJoined (if b then ls.water else ls.land) s t → are_joined_in p s t ≡ true
      by_test true j = let w : are_joined p.water s t ≡ true = (water.joined s t).1 j in either
          (are_joined p.land s t) (are_joined p.water s t) w
        where
          either : (a b : Bool) → b ≡ true → (a || b) ≡ true
          either true b e = refl
          either false b e = e
      by_test false j = let l : are_joined p.land s t ≡ true = (land.joined s t).1 j in rw l refl

  pub tells_both : TellsBoth ls p
  tells_both = record { joined = λ s t. (joined_walk s t, walk_joined s t) }
