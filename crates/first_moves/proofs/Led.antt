-- The first moves, and the walk of them, as functions.
use Rattle.std.proofs.Common.{◌≡◌, ℕ, zero, suc, ◌+◌, arith, refl, ap, sym, ◌∙◌, subst, true, List, [], ◌∷◌}
use Rattle.std.proofs.Common.{length}
use Rattle.std.specs.Prelude.{Option, Some, None}
use Rattle.std.specs.Option.{option_and_then, option_map, option_map_or}
use Rattle.root2_cost.specs.declared.Cost.{Cost}
use Rattle.grid_moves.specs.declared.Cell.{Cell}
use Rattle.grid_moves.specs.declared.Dir.{Dir}
use Rattle.grid_moves.specs.Grid.{GridData, is_free}
use Rattle.grid_moves.specs.Move.{is_legal, legal_ahead}
use Rattle.grid_moves.specs.Walk.{IsLeastWalk, cost_of, is_walk}
use Rattle.grid_moves.proofs.Ahead.{legal_ahead-of}
use Rattle.grid_moves.proofs.Legal.{and_both}
use Rattle.grid_moves.proofs.Short.{least_rest, walk_free}
use Rattle.grid_moves.proofs.Walks.{steps-cost_of}
use Rattle.path_points.specs.Corners.{corners}
use Rattle.path_points.specs.declared.points.Walk.{Walk}
use Rattle.cost_waves.specs.Begin.{IsCostTo, IsLeastCost}
use Rattle.plain_search.specs.Costs.{begins, least_cost}
use Rattle.plain_search.proofs.LeastCosts.{one_least, begins_is, cost_is}
use Rattle.first_moves.specs.First.{FirstMovesAre, IsFirstMove, first_move}
use Rattle.first_moves.specs.Follow.{AreFirst, IsFollowed, IsLedOrNone, LeadsTo, LedWalksAre}
use Rattle.first_moves.specs.Follow.{led_at, led_cells, led_walk}
use Rattle.first_moves.proofs.Following.{over_first}
use Rattle.first_moves.proofs.Leading.{none_begins, one_first, one_move, same_moves}
use Rattle.first_moves.proofs.Picking.{first_is}

-- from a free cell the function tells the first move
pub move_is : (g : GridData) (s t : Cell) → is_free g s ≡ true → IsFirstMove g s t (first_move g s t)
move_is g s t free =
    first_is g s t (begins g s t) (λ d. begins_is g s t d free) (least_cost g s t) (cost_is g s t free)

pub moves_are : FirstMovesAre first_move
moves_are g s t free = record {
  is = move_is g s t free;
  only = λ other is. one_first g s t other (first_move g s t) is (move_is g s t free);
}

some_cell : (u v : Cell) → Some u ≡ Some v → u ≡ v
some_cell u v e = ap (λ (o : Option Cell). elim o as (λ _. Cell) [ Some c ↦ c | None ↦ u ]) e

-- it leads to one cell
one_next : (g : GridData) (s t u v : Cell) → LeadsTo g s t u → LeadsTo g s t v → u ≡ v
one_next g s t u v l m =
    some_cell u v
    (sym l.ahead ∙ ap (λ (d : Dir). legal_ahead g s d) (one_move g s t l.dir m.dir l.first m.first)
    ∙ m.ahead)

-- and on over one way
one_way : (g : GridData) (t s : Cell) (cells others : List Cell) → AreFirst g t s cells
    → AreFirst g t s others
    → IsLeastWalk g s t cells → IsLeastWalk g s t others → cells ≡ others
one_way g t s [] [] f h l m = refl
one_way g t s [] (v ∷ others) f h l m = absurd (omega (arith, same_moves g s t [] (v ∷ others) l m))
one_way g t s (u ∷ cells) [] f h l m = absurd (omega (arith, same_moves g s t (u ∷ cells) [] l m))
one_way g t s (u ∷ cells) (v ∷ others) f h l m =
    let same : v ≡ u = one_next g s t v u h.0 f.0 in
    let rest : cells ≡ others = one_way g t u cells others f.1
    (subst (λ (c : Cell). AreFirst g t c others) same h.1) (least_rest g s t u cells l)
    (subst (λ (c : Cell). IsLeastWalk g c t others) same (least_rest g s t v others m)) in
    ap (λ (cs : List Cell). u ∷ cs) rest ∙ ap (λ (c : Cell). c ∷ others) (sym same)

-- so its points and its cost are one
pub one_followed : (g : GridData) (s t : Cell) (ps qs : List Cell) (c d : Cost) → IsFollowed g s t ps c
    → IsFollowed g s t qs d → (ps ≡ qs) × (c ≡ d)
one_followed g s t ps qs c d p q =
    let same : p.cells ≡ q.cells = one_way g t s p.cells q.cells p.first q.first p.least q.least in (
      p.turns ∙ ap (λ (cells : List Cell). corners (s ∷ cells)) same ∙ sym q.turns,
      sym p.priced ∙ ap (λ (cells : List Cell). cost_of (s ∷ cells)) same ∙ q.priced,
    )

-- or that there is none
same_walk : (p q : Walk) → p.points ≡ q.points → p.cost ≡ q.cost → p ≡ q
same_walk p q e f =
    ap (λ (points : List Cell). let w : Walk = record { points = points; cost = p.cost } in w) e
    ∙ ap (λ (cost : Cost). let w : Walk = record { points = q.points; cost = cost } in w) f

one_led : (g : GridData) (s t : Cell) (a b : Option Walk) → IsLedOrNone g s t a → IsLedOrNone g s t b → a ≡ b
one_led g s t None None p q = refl
one_led g s t None (Some w) none q = absurd (none q.cells q.least.walk)
one_led g s t (Some w) None p none = absurd (none p.cells p.least.walk)
one_led g s t (Some v) (Some w) p q =
    let same = one_followed g s t v.points w.points v.cost w.cost p q in
    ap (λ (x : Walk). Some x) (same_walk v w same.0 same.1)

-- these cells make a walk of first moves that is least
record AreLed (g : GridData) (t s : Cell) (cells : List Cell) : Type 0 where
  first : AreFirst g t s cells
  least : IsLeastWalk g s t cells

-- where a least walk of so many moves leads to t, first moves do
module _ (g : GridData) (t : Cell) where
  led : (n : ℕ) (s : Cell) (cells : List Cell) → IsLeastWalk g s t cells → length cells ≡ n
      → AreLed g t s (led_cells g t n s)
  led zero s [] l many = record { first = tt; least = l }
  led zero s (v ∷ cells) l many = absurd (omega (arith, many))
  led (suc n) s [] l many = absurd (omega (arith, many))
  led (suc n) s (v ∷ cells) l many =
      by_first (led n) (first_move g s t) refl (move_is g s t (walk_free g s (v ∷ cells) l.walk.legal))
    where
      by_first : ((u : Cell) (others : List Cell) → IsLeastWalk g u t others → length others ≡ n
          → AreLed g t u (led_cells g t n u))
          → (move : Option Dir) → first_move g s t ≡ move → IsFirstMove g s t move
          → AreLed g t s (led_cells g t (suc n) s)
      by_first again None e none =
          let a = legal_ahead-of g s v (and_both (is_legal g s v) (is_walk g (v ∷ cells)) l.walk.legal).0 in
          absurd (none_begins g s t a.0 none (record { next = v; ahead = a.1; cells = cells; least = l }))
      by_first again (Some d) e f =
          let b = f.0 in
          let leads : LeadsTo g s t b.next = record { dir = d; first = f; ahead = b.ahead } in
          let as_many : length (b.next ∷ b.cells) ≡ length (v ∷ cells) =
          same_moves g s t (b.next ∷ b.cells) (v ∷ cells) b.least l in
          let on = again b.next b.cells (least_rest g s t b.next b.cells b.least)
          (omega (arith, as_many, many)) in
          let led_on : led_cells g t (suc n) s ≡ b.next ∷ led_cells g t n b.next =
          ap (λ (o : Option Dir). option_map_or (λ (u : Cell). u ∷ led_cells g t n u)
          (option_and_then (legal_ahead g s) o) []) e
          ∙ ap (λ (o : Option Cell). option_map_or (λ (u : Cell). u ∷ led_cells g t n u) o []) b.ahead in
          subst (λ (cs : List Cell). AreLed g t s cs) (sym led_on) (record {
            first = (leads, on.first);
            least = over_first g s t b.next leads (led_cells g t n b.next) on.least;
          })

-- so from a free cell the function tells the walk
pub led_is : (g : GridData) (s t : Cell) → is_free g s ≡ true → IsLedOrNone g s t (led_walk g s t)
unfolding led_walk
led_is g s t free = by_cost (least_cost g s t) (cost_is g s t free)
  where
    by_cost : (o : Option Cost) → IsCostTo g s t o → IsLedOrNone g s t (option_map (led_at g s t) o)
    by_cost None none = none
    by_cost (Some c) l =
        let many : length l.cells ≡ c.a + c.b =
        sym (steps-cost_of s l.cells) ∙ ap (λ (k : Cost). k.a + k.b) l.priced in
        let way : List Cell = led_cells g t (c.a + c.b) s in
        let w = led g t (c.a + c.b) s l.cells l.least many in
        let paid : IsLeastCost g s t (cost_of (s ∷ way)) =
        record { cells = way; least = w.least; priced = refl } in
        record {
          cells = way;
          first = w.first;
          least = w.least;
          turns = refl;
          priced = one_least g s t (cost_of (s ∷ way)) c paid l;
        }

pub walks_are : LedWalksAre led_walk
walks_are g s t free = record {
  is = led_is g s t free;
  only = λ other is. one_led g s t other (led_walk g s t) is (led_is g s t free);
}
