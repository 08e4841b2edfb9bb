-- Walks: where they begin and end, how many moves they have, and walks one after the other.
use Rattle.std.proofs.Common.{◌≡◌, ◌+◌, arith, true, false, Bool, ◌||◌, refl, ap, sym, ◌∙◌, List, [], ◌∷◌}
use Rattle.std.proofs.Common.{◌++◌, length}
use Rattle.std.specs.Prelude.{nat_eq, if◌then◌else◌}
use Rattle.root2_cost.specs.declared.Cost.{Cost}
use Rattle.root2_cost.specs.Sums.{add_costs}
use Rattle.root2_cost.proofs.Sums.{add_costs-assoc, add_costs-no_cost_left, add_costs-no_cost_right}
use Rattle.grid_moves.specs.declared.Cell.{Cell}
use Rattle.grid_moves.specs.Grid.{GridData, is_free}
use Rattle.grid_moves.specs.Move.{is_legal, move_cost}
use Rattle.grid_moves.specs.Walk.{IsWalk, cost_of, is_walk, last_of}
use Rattle.grid_moves.proofs.Legal.{and_both, legal_is}

-- a walk begins on a free cell
pub walk_free : (g : GridData) (s : Cell) (cells : List Cell) → is_walk g (s ∷ cells) ≡ true
    → is_free g s ≡ true
walk_free g s [] w = w
walk_free g s (v ∷ cells) w = (legal_is g s v (and_both (is_legal g s v) (is_walk g (v ∷ cells)) w).0).source

-- and ends on one
pub last_free : (g : GridData) (s : Cell) (cells : List Cell) → is_walk g (s ∷ cells) ≡ true
    → is_free g (last_of s cells) ≡ true
last_free g s [] w = w
last_free g s (v ∷ cells) w = last_free g v cells (and_both (is_legal g s v) (is_walk g (v ∷ cells)) w).1

pub end_free : (g : GridData) (s t : Cell) (cells : List Cell) → IsWalk g s t cells → is_free g t ≡ true
end_free g s t cells w = rw (← w.ends) (last_free g s cells w.legal)

-- a move is one step, straight or diagonal
pub move_counts : (u v : Cell) → (move_cost u v).a + (move_cost u v).b ≡ 1
move_counts u v = by_test (nat_eq u.x v.x || nat_eq u.y v.y)
  where
    by_test : (straight : Bool)
        → (let c : Cost = if straight then record { a = 1; b = 0 } else record { a = 0; b = 1 } in
        c.a + c.b) ≡ 1
    by_test true = refl
    by_test false = refl

-- a walk's steps are the cells after its first one
pub steps-cost_of : (s : Cell) (cells : List Cell)
    → (cost_of (s ∷ cells)).a + (cost_of (s ∷ cells)).b ≡ length cells
steps-cost_of s [] = refl
steps-cost_of s (v ∷ cells) =
    let one = move_counts s v in let rest = steps-cost_of v cells in omega arith

-- a walk and what goes on from its end
pub last-joined : (s : Cell) (cells more : List Cell)
    → last_of s (cells ++ more) ≡ last_of (last_of s cells) more
last-joined s [] more = refl
last-joined s (c ∷ cells) more = last-joined c cells more

pub walk-joined : (g : GridData) (s : Cell) (cells more : List Cell) → is_walk g (s ∷ cells) ≡ true
    → is_walk g (last_of s cells ∷ more) ≡ true → is_walk g (s ∷ (cells ++ more)) ≡ true
walk-joined g s [] more w v = v
walk-joined g s (c ∷ cells) more w v =
    let parts = and_both (is_legal g s c) (is_walk g (c ∷ cells)) w in
    rw (parts.0, walk-joined g c cells more parts.1 v) refl

pub walk-parts : (g : GridData) (s : Cell) (cells more : List Cell) → is_walk g (s ∷ (cells ++ more)) ≡ true
    → (is_walk g (s ∷ cells) ≡ true) × (is_walk g (last_of s cells ∷ more) ≡ true)
walk-parts g s [] more w = (walk_free g s more w, w)
walk-parts g s (c ∷ cells) more w =
    let parts = and_both (is_legal g s c) (is_walk g (c ∷ (cells ++ more))) w in
    let rest = walk-parts g c cells more parts.1 in
    (rw (parts.0, rest.0) refl, rest.1)

pub cost-joined : (s : Cell) (cells more : List Cell)
    → cost_of (s ∷ (cells ++ more)) ≡ add_costs (cost_of (s ∷ cells)) (cost_of (last_of s cells ∷ more))
cost-joined s [] more = sym (add_costs-no_cost_left (cost_of (s ∷ more)))
cost-joined s (c ∷ cells) more = ap (λ (k : Cost). add_costs (move_cost s c) k) (cost-joined c cells more)
    ∙ sym (add_costs-assoc (move_cost s c) (cost_of (c ∷ cells)) (cost_of (last_of c cells ∷ more)))

-- s followed by these cells is a walk to v, at this cost
pub record Goes (g : GridData) (s v : Cell) (cells : List Cell) (cost : Cost) : Type 0 where
  pub legal : is_walk g (s ∷ cells) ≡ true
  pub ends : last_of s cells ≡ v
  pub priced : cost_of (s ∷ cells) ≡ cost

-- one move more
pub one_more : (g : GridData) (s p v : Cell) (cells : List Cell) (cost : Cost) → Goes g s p cells cost
    → is_legal g p v ≡ true → Goes g s v (cells ++ (v ∷ [])) (add_costs cost (move_cost p v))
one_more g s p v cells cost w l = record {
  legal = walk-joined g s cells (v ∷ []) w.legal (rw (w.ends, l, (legal_is g p v l).target) refl);
  ends = last-joined s cells (v ∷ []);
  priced = cost-joined s cells (v ∷ [])
      ∙ rw (w.priced, w.ends) (ap (add_costs cost) (add_costs-no_cost_right (move_cost p v)));
}
