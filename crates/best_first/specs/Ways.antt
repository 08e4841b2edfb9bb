-- What a taken state offers: the links that it has, in some order.
use Rattle.std.specs.Prelude.{List, [], ◌∷◌}
use Rattle.root2_cost.specs.declared.Cost.{Cost}
use Rattle.root2_cost.specs.Sums.{add_costs}
use Rattle.search_run.specs.Run.{Taken}
use Rattle.best_first.specs.declared.state.State.{State}
use Rattle.best_first.specs.Mirror.{Offers, with_offer}

-- a link on from a state at hand: where it leads and what it costs
pub record Onward : Type 0 where
  pub to : State
  pub cost : Cost

-- it is one of these
pub data IsAmong (w : Onward) : List Onward → Type 0 where
  first : (ways : List Onward) → IsAmong w (w ∷ ways)
  later : (v : Onward) (ways : List Onward) → IsAmong w ways → IsAmong w (v ∷ ways)

-- with what a taken state offers over one link
abbrev pub with_onward : Taken State → Offers → Onward → Offers
with_onward u best w = with_offer best w.to (record { cost = add_costs u.cost w.cost; from = u.state })

-- with what it offers over these links, in their order
abbrev pub with_all : Taken State → Offers → List Onward → Offers
with_all u best [] = best
with_all u best (w ∷ ways) = with_all u (with_onward u best w) ways
