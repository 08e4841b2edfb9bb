-- From what a pass in waves tells to the least costs to all cells.
use Rattle.std.proofs.Common.{arith}
use Rattle.std.proofs.lemmas.Grind.{common_steps}
use Rattle.std.proofs.Common.{◌≡◌, ℕ, ◌*◌, length, List, ap, ◌∙◌, subst, map, true}
use Rattle.std.specs.Prelude.{Option, Some, None, slice_get, option_map, Result, Ok, Err, IfOk}
use Rattle.std.proofs.lemmas.Option.{slice_get-map, get_or_from_slice_get}
use Rattle.root2_cost.specs.declared.Cost.{Cost}
use Rattle.grid_moves.specs.declared.Cell.{Cell}
use Rattle.grid_moves.specs.Grid.{GridData, is_inside, cell_number}
use Rattle.cost_waves.specs.Rank.{far, cost_known}
use Rattle.cost_waves.specs.Stored.{WaveData, Tells}
use Rattle.plain_search.specs.Costs.{IsCostTo, AreCostsToAll}

some_cost : (a b : Option Cost) → Some a ≡ Some b → a ≡ b
some_cost a b e = ap (λ (o : Option (Option Cost)). elim o as (λ _. Option Cost) [ Some v ↦ v | None ↦ a ]) e

module _ (g : GridData) (s : Cell) (w : WaveData) (wide : w.width ≡ g.width) (high : w.height ≡ g.height)
    (right : Tells g s w) where
  entry_is : (c : Cell) (entry : Option Cost) → is_inside g c ≡ true → (o : Option ℕ)
      → slice_get w.ranks (cell_number w.width c) ≡ o → option_map (λ r. cost_known r) o ≡ Some entry
      → IsCostTo g s c entry
  entry_is c entry on None e h = absurd (cc)
  entry_is c entry on (Some rank) e h =
      let same = get_or_from_slice_get w.ranks (cell_number w.width c) rank far e in
      subst (λ (p : Option Cost). IsCostTo g s c p)
      (ap (λ (r : ℕ). cost_known r) same ∙ some_cost (cost_known rank) entry h)
      (right.costs c on)

  pub are_costs : (costs : List (Option Cost)) → costs ≡ map (λ r. cost_known r) w.ranks
      → length costs ≡ w.height * w.width → AreCostsToAll g s costs
  are_costs costs h1 h2 = grind (arith, common_steps, entry_is, slice_get-map)

  pub costs_if : {X E : Type 0} (items : X → List (Option Cost)) (r : Result X E)
      → IfOk r (λ v. items v ≡ map (λ n. cost_known n) w.ranks)
      → IfOk r (λ v. length (items v) ≡ w.height * w.width)
      → IfOk r (λ v. AreCostsToAll g s (items v))
  costs_if items (Ok v) made whole = are_costs (items v) made whole
  costs_if items (Err e) made whole = tt
