-- Walks as lists of cells: one more move, and walks as chains of links.
use Rattle.std.proofs.Common.{◌≡◌, arith, refl, ap, sym, ◌∙◌, Bool, true, false, List, [], ◌∷◌}
use Rattle.std.specs.Prelude.{Some, None, Option, if◌then◌else◌}
use Rattle.std.proofs.lemmas.Bool.Decides.{nat_tests}
use Rattle.std.proofs.lemmas.Bool.{false_from_ne_true}
use Rattle.root2_cost.specs.declared.Cost.{Cost}
use Rattle.root2_cost.specs.Sums.{no_cost}
use Rattle.grid_moves.specs.declared.Cell.{Cell}
use Rattle.grid_moves.specs.declared.Dir.{Dir}
use Rattle.grid_moves.specs.Grid.{GridData, is_free}
use Rattle.grid_moves.specs.Move.{is_legal, is_same, move_cost}
use Rattle.grid_moves.specs.Points.{estimate}
use Rattle.grid_moves.specs.Walk.{is_walk, cost_of, last_of}
use Rattle.grid_moves.proofs.Legal.{IsLegal, and_both, legal_is, is_same-cell, free_inside}
use Rattle.grid_moves.proofs.Walks.{Goes}
use Rattle.search_run.specs.Chain.{Chain, stays, goes_on, IsConsistent}
use Rattle.best_first.specs.declared.state.State.{State}
use Rattle.best_first.specs.State.{start_at}
use Rattle.best_first.specs.Rule.{AreLinks, Links}
use Rattle.best_first.proofs.Links.{consistent}
use Rattle.plain_search.specs.Rule.{plain_rule, plain_links, move_link}

pub goes_nowhere : (g : GridData) (s : Cell) → is_free g s ≡ true → Goes g s s [] no_cost
goes_nowhere g s f = record { legal = f; ends = refl; priced = refl }

abbrev cost_in : Option Cost → Cost
cost_in None = no_cost
cost_in (Some k) = k

-- a link is a legal move to the state of a cell's start, at the move's cost
pub record IsMove (g : GridData) (u v : State) (c : Cost) : Type 0 where
  pub legal : is_legal g u.cell v.cell ≡ true
  pub cost : c ≡ move_cost u.cell v.cell
  pub plain : v ≡ start_at v.cell

pub link_move : (g : GridData) (u v : State) (c : Cost) → move_link g u.cell v.cell v.arrival ≡ Some c
    → IsMove g u v c
link_move g u v c e = by_arrival v.arrival refl e
  where
    by_test : v.arrival ≡ None → (b : Bool) → is_legal g u.cell v.cell ≡ b
        → (if b then Some (move_cost u.cell v.cell) else None) ≡ Some c → IsMove g u v c
    by_test a true l e = record {
      legal = l;
      cost = ap (λ (o : Option Cost). cost_in o) (sym e);
      plain = ap (λ (d : Option Dir). let s : State = record { cell = v.cell; arrival = d } in s) a;
    }
    by_test a false l e = absurd (cc)

    by_arrival : (d : Option Dir) → v.arrival ≡ d → move_link g u.cell v.cell d ≡ Some c → IsMove g u v c
    by_arrival None a e = by_test a (is_legal g u.cell v.cell) refl e
    by_arrival (Some d) a e = absurd (cc)

pub legal_link : (g : GridData) (u v : Cell) → is_legal g u v ≡ true
    → move_link g u v None ≡ Some (move_cost u v)
legal_link g u v l = rw l refl

-- the octile distance of two neighbours is what a move between them costs
pub move_cost-estimate : (g : GridData) (u v : Cell) → is_legal g u v ≡ true → move_cost u v ≡ estimate u v
move_cost-estimate g u v h1 = grind (arith, nat_tests, IsLegal, legal_is)

-- a legal move leads to another cell
pub legal_apart : (g : GridData) (u v : Cell) → is_legal g u v ≡ true → is_same u v ≡ false
legal_apart g u v l = false_from_ne_true (is_same u v) (λ e. let one = is_same-cell u v e in
    (legal_is g u v l).differ (ap (λ (c : Cell). c.x) one) (ap (λ (c : Cell). c.y) one))

-- the links of the plain engine on a map
pub plain_are_links : (g : GridData) → AreLinks g.width g.height (plain_links g)
plain_are_links g = record {
  lands = λ p u v c e. free_inside g v.cell (legal_is g u.cell v.cell (link_move g u v c e).legal).target;
  moves = λ p u v c e. legal_apart g u.cell v.cell (link_move g u v c e).legal;
  starts = λ c. refl;
  priced = λ p u v c e. (let m = link_move g u v c e in m.cost ∙ move_cost-estimate g u.cell v.cell m.legal);
}

-- links that are legal moves
pub record AreMoves (g : GridData) (link : Links) : Type 0 where
  pub links : AreLinks g.width g.height link
  pub moves : (p u v : State) (c : Cost) → link.step p u v ≡ Some c → IsMove g u v c

pub plain_are_moves : (g : GridData) → AreMoves g (plain_links g)
plain_are_moves g = record { links = plain_are_links g; moves = λ p. link_move g }

-- the octile estimate is fit for the plain rule
pub plain_consistent : (g : GridData) (t : Cell) → IsConsistent (plain_rule g t)
plain_consistent g t = consistent g.width g.height t (plain_links g) (plain_are_links g)

-- a walk is a chain of its cost
pub walk_chain : (g : GridData) (t s : Cell) (cells : List Cell) → is_walk g (s ∷ cells) ≡ true
    → Chain (plain_rule g t) (start_at s) (start_at (last_of s cells)) (cost_of (s ∷ cells))
walk_chain g t s [] w = stays (start_at s)
walk_chain g t s (v ∷ cells) w =
    let parts = and_both (is_legal g s v) (is_walk g (v ∷ cells)) w in
    goes_on (start_at s) (start_at v) (start_at (last_of v cells)) (move_cost s v) (cost_of (v ∷ cells))
    (λ p. legal_link g s v parts.0) (walk_chain g t v cells parts.1)
