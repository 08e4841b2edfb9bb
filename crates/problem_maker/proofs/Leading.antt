-- Where a walk leads.
use Rattle.std.proofs.Common.{◌≡◌, refl, Bool, true, false, ◌&&◌}
use Rattle.std.specs.Prelude.{Option, Some, None, IsTrue, ◌↔◌, is_some}
use Rattle.root2_cost.specs.declared.Cost.{Cost}
use Rattle.grid_moves.specs.declared.Cell.{Cell}
use Rattle.grid_moves.specs.Grid.{GridData, is_free}
use Rattle.grid_moves.specs.Layers.{query_grid}
use Rattle.grid_moves.proofs.Walks.{walk_free}
use Rattle.joined_cells.specs.Joined.{IsJoined}
use Rattle.plain_search.specs.Costs.{IsCostTo, least_cost}
use Rattle.plain_search.proofs.LeastCosts.{cost_is}
use Rattle.problem_maker.specs.Laws.{LeadsIs}
use Rattle.problem_maker.specs.Tries.{leads, leads_on}

module _ (g : GridData) (s t : Cell) where
  by_cost : (cost : Option Cost) → IsCostTo g s t cost → IsTrue (is_some cost) ↔ IsJoined g s t
  by_cost None none = (
    λ no. absurd (let e : false ≡ true = no in cc),
    λ j. absurd (none j.cells j.walk),
  )
  by_cost (Some cost) least = (λ yes. record { cells = least.cells; walk = least.least.walk }, λ j. refl)

  by_start : (b : Bool) → is_free g s ≡ b → IsTrue (b && is_some (least_cost g s t)) ↔ IsJoined g s t
  by_start true free = by_cost (least_cost g s t) (cost_is g s t free)
  by_start false shut = (
    λ no. absurd (let e : false ≡ true = no in cc),
    λ j. absurd (let free = walk_free g s j.cells j.walk.legal in cc),
  )

  leads_joined : IsTrue (leads_on g s t) ↔ IsJoined g s t
  leads_joined = by_start (is_free g s) refl

pub leads_is : LeadsIs leads
leads_is ls s t = leads_joined (query_grid ls s) s t
