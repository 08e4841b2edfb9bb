-- What a least walk costs, and with which moves least walks begin, as functions.
use Rattle.std.proofs.Common.{◌≡◌, ◌+◌, ◌*◌, ◌≤◌, arith, refl, ap, sym, ◌∙◌, subst, true, false, ◌∷◌}
use Rattle.std.specs.Prelude.{Option, Some, None, IsTrue, ◌↔◌}
use Rattle.std.specs.Option.{option_map, option_map_or}
use Rattle.root2_cost.specs.declared.Cost.{Cost}
use Rattle.root2_cost.specs.Order.{IsAtMost}
use Rattle.root2_cost.specs.Sums.{add_costs}
use Rattle.root2_cost.proofs.AtMost.{IsAtMost-antisymmetric, IsAtMost-refl}
use Rattle.root2_cost.proofs.Less.{is_same_cost-of, is_same_cost-tells}
use Rattle.root2_cost.proofs.Sums.{add_costs-comm}
use Rattle.grid_moves.specs.declared.Cell.{Cell}
use Rattle.grid_moves.specs.declared.Dir.{Dir}
use Rattle.grid_moves.specs.Grid.{GridData, is_free}
use Rattle.grid_moves.specs.Move.{dir_cost, legal_ahead, move_cost}
use Rattle.grid_moves.specs.Walk.{cost_of}
use Rattle.grid_moves.proofs.Ahead.{legal_ahead-ahead, legal_ahead-free}
use Rattle.grid_moves.proofs.Costs.{cost_there}
use Rattle.grid_moves.proofs.Short.{least_rest, least_steps}
use Rattle.grid_moves.proofs.Walks.{steps-cost_of}
use Rattle.path_points.specs.declared.points.Walk.{Walk}
use Rattle.path_points.specs.Least.{IsLeastOrNone}
use Rattle.cost_waves.specs.Begin.{Begins, IsLeastCost}
use Rattle.cost_waves.proofs.Falling.{GoesOver, goes_over, least_by_move}
use Rattle.plain_search.specs.Answer.{plain_found}
use Rattle.plain_search.specs.Costs.{BeginsIs, IsCostTo, LeastCostsAre, begins, falls_by, least_cost}
use Rattle.plain_search.proofs.Answering.{answers_are}
use Rattle.plain_search.proofs.Within.{only_cost}

-- two least costs of one cell are one
pub one_least : (g : GridData) (s c : Cell) (p q : Cost) → IsLeastCost g s c p → IsLeastCost g s c q → p ≡ q
one_least g s c p q a b = sym a.priced
    ∙ IsAtMost-antisymmetric (cost_of (s ∷ a.cells)) (cost_of (s ∷ b.cells))
    (a.least.least b.cells b.least.walk) (b.least.least a.cells a.least.walk)
    ∙ b.priced

-- it takes fewer moves than there are cells
pub few_least : (g : GridData) (s c : Cell) (cost : Cost) → IsLeastCost g s c cost
    → cost.a + cost.b ≤ g.height * g.width
few_least g s c cost l =
    let steps = least_steps g s c l.cells l.least in
    let counts = rw l.priced at (steps-cost_of s l.cells) in
    omega arith

-- the cost to a cell is one, or there is none
pub one_cost : (g : GridData) (s t : Cell) (p q : Option Cost) → IsCostTo g s t p → IsCostTo g s t q → p ≡ q
one_cost g s t None None is also = refl
one_cost g s t None (Some q) none least = absurd (none least.cells least.least.walk)
one_cost g s t (Some p) None least none = absurd (none least.cells least.least.walk)
one_cost g s t (Some p) (Some q) is also = ap (λ (c : Cost). Some c) (one_least g s t p q is also)

-- that of the plain engine's walk is right
found_is : (g : GridData) (s t : Cell) → is_free g s ≡ true
    → IsCostTo g s t (option_map (λ (w : Walk). w.cost) (plain_found g s t).walk)
found_is g s t free = by_walk (plain_found g s t).walk (answers_are.least g s t free)
  where
    by_walk : (walk : Option Walk) → IsLeastOrNone g s t walk
        → IsCostTo g s t (option_map (λ (w : Walk). w.cost) walk)
    by_walk None none = none
    by_walk (Some w) stands = record { cells = stands.cells; least = stands.least; priced = stands.priced }

-- so the least cost is that of its walk, and right
pub least_is_found : (g : GridData) (s t : Cell) → is_free g s ≡ true
    → least_cost g s t ≡ option_map (λ (w : Walk). w.cost) (plain_found g s t).walk
least_is_found g s t free =
    only_cost g s t (option_map (λ (w : Walk). w.cost) (plain_found g s t).walk) free (found_is g s t free)

pub cost_is : (g : GridData) (s t : Cell) → is_free g s ≡ true → IsCostTo g s t (least_cost g s t)
cost_is g s t free =
    subst (λ (o : Option Cost). IsCostTo g s t o) (sym (least_is_found g s t free)) (found_is g s t free)

pub costs_are : LeastCostsAre least_cost
costs_are g s t free = record {
  is = cost_is g s t free;
  only = λ other is. one_cost g s t other (least_cost g s t) is (cost_is g s t free);
}

-- what is left to pay to t, before a move and after it
module _ (g : GridData) (u v t : Cell) (d : Dir) (e : legal_ahead g u d ≡ Some v) (move : Cost)
    (priced : move_cost u v ≡ move) where
  -- where the move begins a least walk, it falls by what the move costs
  pub begins_falls : (here there : Option Cost) → IsCostTo g u t here → IsCostTo g v t there → Begins g u t d
      → falls_by move here there ≡ true
  begins_falls here there l m b = by_costs here there l m (goes_over g u v t d e b)
    where
      by_costs : (here there : Option Cost) → IsCostTo g u t here → IsCostTo g v t there → GoesOver g u v t
          → falls_by move here there ≡ true
      by_costs None there none m o = absurd (none (v ∷ o.cells) o.least.walk)
      by_costs (Some before) None l none o = absurd (none o.cells (least_rest g u t v o.cells o.least).walk)
      by_costs (Some before) (Some after) l m o =
          let rest : IsLeastCost g v t (cost_of (v ∷ o.cells)) =
          record { cells = o.cells; least = least_rest g u t v o.cells o.least; priced = refl } in
          let whole : IsLeastCost g u t (cost_of (u ∷ v ∷ o.cells)) =
          record { cells = v ∷ o.cells; least = o.least; priced = refl } in
          is_same_cost-of (add_costs after move) before
          (add_costs-comm after move
          ∙ ap (λ (c : Cost). add_costs c after) (sym priced)
          ∙ ap (λ (c : Cost). add_costs (move_cost u v) c)
          (one_least g v t after (cost_of (v ∷ o.cells)) m rest)
          ∙ one_least g u t (cost_of (u ∷ v ∷ o.cells)) before whole l)

  -- and where it falls by that, the move begins one
  pub falls_begins : (here there : Option Cost) → IsCostTo g u t here → IsCostTo g v t there
      → falls_by move here there ≡ true → Begins g u t d
  falls_begins None there l m falls = absurd (cc)
  falls_begins (Some before) None l m falls = absurd (cc)
  falls_begins (Some before) (Some after) l m falls =
      let total : cost_of (u ∷ v ∷ m.cells) ≡ cost_of (u ∷ l.cells) =
      ap (λ (c : Cost). add_costs (move_cost u v) c) m.priced ∙ ap (λ (c : Cost). add_costs c after) priced
      ∙ add_costs-comm move after ∙ is_same_cost-tells (add_costs after move) before falls ∙ sym l.priced in
      record {
        next = v;
        ahead = e;
        cells = m.cells;
        least = least_by_move g u v t d l.cells m.cells e l.least m.least.walk
            (subst (λ (c : Cost). IsAtMost c (cost_of (u ∷ l.cells))) (sym total)
            (IsAtMost-refl (cost_of (u ∷ l.cells))));
      }

-- so the function tells with which moves least walks begin
pub begins_is : BeginsIs begins
unfolding begins
begins_is g u t d free = by_ahead (legal_ahead g u d) refl
  where
    by_ahead : (o : Option Cell) → legal_ahead g u d ≡ o
        → IsTrue (option_map_or
        (λ (v : Cell). falls_by (dir_cost d) (least_cost g u t) (least_cost g v t)) o false)
        ↔ Begins g u t d
    by_ahead None e = (λ h. absurd (cc), λ b. let p : None ≡ Some b.next = sym e ∙ b.ahead in absurd (cc))
    by_ahead (Some v) e =
        let priced = cost_there d u v (legal_ahead-ahead g u v d e) in
        let here = cost_is g u t free in
        let there = cost_is g v t (legal_ahead-free g u v d e) in (
          λ h. falls_begins g u v t d e (dir_cost d) priced (least_cost g u t)
              (least_cost g v t) here there h,
          λ b. begins_falls g u v t d e (dir_cost d) priced (least_cost g u t)
              (least_cost g v t) here there b,
        )
