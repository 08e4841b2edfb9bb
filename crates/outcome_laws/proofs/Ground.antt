-- Which cells lie on the map, and which of them are free on the grid of a query.
use Rattle.std.proofs.Common.{◌≡◌, sym, ◌∙◌, Bool, true, false}
use Rattle.std.specs.Prelude.{if◌then◌else◌}
use Rattle.grid_moves.specs.declared.Cell.{Cell}
use Rattle.grid_moves.specs.Grid.{IsGrid, is_free}
use Rattle.grid_moves.specs.Layers.{AreLayers, Layers, query_grid}
pub use Rattle.edit_replay.proofs.Grounds.{ends_free, ends_on, ground_on}

pub not_both : {A : Type 0} (b : Bool) → b ≡ true → b ≡ false → A
not_both b e f = absurd (let h : true ≡ false = sym e ∙ f in cc)

module _ (ls : Layers) (are : AreLayers ls) where
  -- the grid of a query is that of a map
  pub query_whole : (s : Cell) → IsGrid (query_grid ls s)
  query_whole s = by_test (is_free ls.water s)
    where
      by_test : (b : Bool) → IsGrid (if b then ls.water else ls.land)
      by_test true = are.water
      by_test false = are.land
