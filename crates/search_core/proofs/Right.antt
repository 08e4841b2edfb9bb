-- What the runs of jumps answer stands for a walk; with a state for each arrival no walk undercuts it, as
-- chains of first stops are links.
use Rattle.std.proofs.Common.{◌≡◌, ℕ, ap, sym, ◌∙◌, subst, true, List, ◌∷◌}
use Rattle.std.specs.Prelude.{map}
use Rattle.root2_cost.specs.declared.Cost.{Cost}
use Rattle.root2_cost.proofs.Most.{Most, Most-then, Most-same}
use Rattle.grid_moves.specs.declared.Cell.{Cell}
use Rattle.grid_moves.specs.Grid.{GridData, is_free}
use Rattle.grid_moves.specs.Move.{is_same}
use Rattle.grid_moves.specs.Walk.{IsWalk, cost_of, NoWalk}
use Rattle.grid_moves.specs.Reply.{StandsForWalk, StandsForLeast}
use Rattle.grid_moves.proofs.Legal.{is_same-itself}
use Rattle.pruning.specs.Chain.{start_state, last_state}
use Rattle.pruning.proofs.Chaining.{chains_from}
use Rattle.pruning.proofs.Explaining.{turns_are_marked}
use Rattle.pruning.proofs.Law.{canonical_from}
use Rattle.pruning.proofs.Replacing.{turns_are_replaced}
use Rattle.pruning.proofs.Unfolding.{chains_are_walks}
use Rattle.search_run.specs.Run.{here}
use Rattle.search_run.specs.Chain.{Chain}
use Rattle.search_run.proofs.Leastness.{run_is_least, run_finds_all}
use Rattle.best_first.specs.declared.state.Layout.{Layout}
use Rattle.best_first.specs.declared.state.Layout.TheVariants.{ByArrival}
use Rattle.best_first.specs.declared.state.State.{State}
use Rattle.best_first.specs.State.{start_at}
use Rattle.search_core.specs.Jumps.{jump_rule, state_at}
use Rattle.search_core.specs.Answer.{IsFound, IsExhausted}
use Rattle.search_core.proofs.Ways.{jumps_consistent, chain_linked, way}

-- the points of a run stand for a walk of its cost
pub found_walk : (layout : Layout) (g : GridData) (s t : Cell) (points : List Cell) (cost : Cost)
    (taken : List ℕ) → is_free g s ≡ true → IsFound layout g s t points cost taken
    → StandsForWalk g s t points cost
found_walk layout g s t points cost taken free f =
    let w = way layout g t s (f.last ∷ f.earlier) f.run f.last (here f.earlier) in
    let walk = chains_are_walks g t s w.states f.last.cost free w.chain in
    let ends : (last_state (start_state s) w.states).cell ≡ t = ap (λ u. u.cell) w.ends ∙ f.at_goal in
    let along : points ≡ s ∷ map (λ u. u.cell) w.states = f.along ∙ w.is_way in
    in_place (s ∷ map (λ u. u.cell) w.states) points f.last.cost cost
    (last_state (start_state s) w.states).cell t (sym along) (sym f.priced) ends walk
  where
    in_place : (q p : List Cell) (b c : Cost) (e d : Cell) → q ≡ p → b ≡ c → e ≡ d
        → StandsForWalk g s e q b → StandsForWalk g s d p c
    in_place q p b c e d same priced ends walk =
        subst (λ (x : Cell). StandsForWalk g s x p c) ends
        (subst (λ (z : Cost). StandsForWalk g s e p z) priced
        (subst (λ (ps : List Cell). StandsForWalk g s e ps b) same walk))

-- and for a least one, where no walk undercuts its cost
pub found_least_so : (layout : Layout) (g : GridData) (s t : Cell) (points : List Cell) (cost : Cost)
    (taken : List ℕ) → is_free g s ≡ true → (f : IsFound layout g s t points cost taken)
    → ((others : List Cell) → IsWalk g s t others → Most f.last.cost (cost_of (s ∷ others)))
    → StandsForLeast g s t points cost
found_least_so layout g s t points cost taken free f least =
    let walk = found_walk layout g s t points cost taken free f in
    record {
      cells = walk.cells;
      unfolds = walk.unfolds;
      least = record {
        walk = walk.walk;
        least = λ others o. (Most-then (Most-same (walk.priced ∙ f.priced)) (least others o)).is;
      };
      priced = walk.priced;
    }

module _ (g : GridData) (s t : Cell) where
  -- links lead from the start to a goal, at no more than this cost
  record HasLinks (bound : Cost) : Type 0 where
    to : State
    cost : Cost
    chain : Chain (jump_rule ByArrival g t) (start_at s) to cost
    at_goal : is_same to.cell t ≡ true
    most : Most cost bound

  -- for each walk they do
  walk_linked : (cells : List Cell) → IsWalk g s t cells → HasLinks (cost_of (s ∷ cells))
  walk_linked cells w =
      let canonical = canonical_from turns_are_replaced g s t cells w in
      let chain = chains_from turns_are_marked g s t canonical.others canonical.canonical in
      record {
        to = state_at (last_state (start_state s) chain.states);
        cost = chain.cost;
        chain = chain_linked g t (start_state s) chain.states chain.cost chain.chain;
        at_goal = subst (λ (c : Cell). is_same c t ≡ true) (sym chain.ends) (is_same-itself t);
        most = Most-then (record { is = chain.no_more }) (record { is = canonical.no_more });
      }

  -- so the run with a state for each arrival finds a least walk
  pub arrivals_least : (points : List Cell) (cost : Cost) (taken : List ℕ) → is_free g s ≡ true
      → IsFound ByArrival g s t points cost taken → StandsForLeast g s t points cost
  arrivals_least points cost taken free f =
      let at_t : is_same f.last.state.cell t ≡ true =
      subst (λ (c : Cell). is_same c t ≡ true) (sym f.at_goal) (is_same-itself t) in
      found_least_so ByArrival g s t points cost taken free f (λ others o.
      let l = walk_linked others o in
      Most-then (run_is_least (jump_rule ByArrival g t) (jumps_consistent ByArrival g t) (start_at s) l.to
      f.last f.earlier l.cost f.run at_t l.chain l.at_goal) l.most)

  -- where it ends without the goal no walk leads there
  pub arrivals_none : (taken : List ℕ) → IsExhausted ByArrival g s t taken → NoWalk g s t
  arrivals_none taken x = λ cells w.
      let l = walk_linked cells w in
      run_finds_all (jump_rule ByArrival g t) (jumps_consistent ByArrival g t) (start_at s) l.to x.run l.cost
      x.is_run x.none_waits x.no_goal l.chain l.at_goal
