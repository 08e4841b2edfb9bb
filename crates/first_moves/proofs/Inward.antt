-- A pass from the goal tells the first moves to it.
use Rattle.std.proofs.Common.{◌≡◌, ◌+◌, ◌*◌, ◌<◌, ◌≤◌, arith, refl, ap, sym, ◌∙◌, subst, true, mul-le-mul}
use Rattle.std.specs.Prelude.{Option, Some, None}
use Rattle.root2_cost.specs.declared.Cost.{Cost}
use Rattle.grid_moves.specs.declared.Cell.{Cell}
use Rattle.grid_moves.specs.declared.Dir.{Dir}
use Rattle.grid_moves.specs.Grid.{GridData, AreSides, is_inside}
use Rattle.grid_moves.specs.Move.{all_dirs, legal_ahead, move_cost}
use Rattle.grid_moves.proofs.Ahead.{legal_ahead-is}
use Rattle.grid_moves.proofs.Legal.{and_both, free_inside, legal_is}
use Rattle.grid_moves.proofs.Short.{least_steps}
use Rattle.grid_moves.proofs.Walks.{steps-cost_of}
use Rattle.cost_waves.specs.Begin.{Begins, IsCostTo, IsLeastCost}
use Rattle.cost_waves.specs.Stored.{WaveData, cost_at}
use Rattle.std.specs.List.{find}
use Rattle.plain_search.proofs.LeastCosts.{begins_falls, falls_begins}
use Rattle.first_moves.specs.First.{IsFirstMove}
use Rattle.first_moves.specs.Follow.{IsNext}
use Rattle.first_moves.specs.Inward.{IsPassFrom, leads, leads_to}
use Rattle.first_moves.proofs.Following.{next_some}
use Rattle.first_moves.proofs.Picking.{first_is}
use Rattle.cost_waves.proofs.Turned.{cost_back}

pub inside_ahead : (g : GridData) (c v : Cell) (d : Dir) → legal_ahead g c d ≡ Some v → is_inside g v ≡ true
inside_ahead g c v d e = (and_both (is_inside g v) _ (legal_is g c v (legal_ahead-is g c v d e)).target).0

pub ahead_column : (g : GridData) (c v : Cell) (d : Dir) → legal_ahead g c d ≡ Some v → v.x < g.width
ahead_column g c v d e = (free_inside g v (legal_is g c v (legal_ahead-is g c v d e)).target).0

pub few_cells : (g : GridData) → AreSides g.width g.height → g.height * g.width ≤ 16777216
few_cells g s = let p : g.height * g.width ≤ 4096 * 4096 = mul-le-mul s.low s.narrow in omega arith

module _ (g : GridData) (goal : Cell) (w : WaveData) (p : IsPassFrom g goal w) where
  -- the cost that is stored for a cell is what the goal costs from there
  cost_from : (c : Cell) → is_inside g c ≡ true → IsCostTo g c goal (cost_at w c)
  cost_from c i = cost_back g goal c (cost_at w c) (p.tells.costs c i)

  -- which is few moves
  pub small : (c : Cell) (cost : Cost) → is_inside g c ≡ true → cost_at w c ≡ Some cost
      → cost.a + cost.b < 16777216
  small c cost i e =
      let l : IsLeastCost g c goal cost =
      subst (λ (o : Option Cost). IsCostTo g c goal o) e (cost_from c i) in
      let steps = least_steps g c goal l.cells l.least in
      let counts = steps-cost_of c l.cells in
      let few = few_cells g p.sides in
      subst (λ (k : Cost). k.a + k.b < 16777216) l.priced (omega (arith, steps, counts, few))

  -- a move that begins a least walk saves what it costs
  begins_leads : (c : Cell) (d : Dir) → is_inside g c ≡ true → Begins g c goal d → leads g w c d ≡ true
  begins_leads c d i b =
      ap (λ (o : Option Cell). leads_to w c o) b.ahead
      ∙ begins_falls g c b.next goal d b.ahead (move_cost c b.next) refl (cost_at w c) (cost_at w b.next)
      (cost_from c i) (cost_from b.next (inside_ahead g c b.next d b.ahead)) b

  -- and one that saves it begins one
  leads_begins : (c : Cell) (d : Dir) → is_inside g c ≡ true → leads g w c d ≡ true → Begins g c goal d
  leads_begins c d i h = by_ahead (legal_ahead g c d) refl h
    where
      by_ahead : (o : Option Cell) → legal_ahead g c d ≡ o → leads_to w c o ≡ true → Begins g c goal d
      by_ahead None e s = absurd (cc)
      by_ahead (Some v) e s =
          falls_begins g c v goal d e (move_cost c v) refl (cost_at w c) (cost_at w v) (cost_from c i)
          (cost_from v (inside_ahead g c v d e)) s

  -- so the first of these directions is the first move
  pub first_inward : (c : Cell) → is_inside g c ≡ true
      → IsFirstMove g c goal (find (leads g w c) all_dirs)
  first_inward c i =
      first_is g c goal (leads g w c) (λ d. (leads_begins c d i, begins_leads c d i)) (cost_at w c)
      (cost_from c i)

  -- from what the code has
  pub inward_some : (c : Cell) (d : Dir) (o : Option Dir) (r : Option Cell) → is_inside g c ≡ true
      → o ≡ find (leads g w c) all_dirs → o ≡ Some d → r ≡ legal_ahead g c d → IsNext g c goal r
  inward_some c d o r i e h a =
      next_some g c goal d r
      (subst (λ (m : Option Dir). IsFirstMove g c goal m) (sym e ∙ h) (first_inward c i)) a

  pub inward_none : (c : Cell) (o : Option Dir) → is_inside g c ≡ true
      → o ≡ find (leads g w c) all_dirs → o ≡ None → IsNext g c goal None
  inward_none c o i e h = subst (λ (m : Option Dir). IsFirstMove g c goal m) (sym e ∙ h) (first_inward c i)
