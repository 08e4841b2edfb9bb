-- Chains of first stops are chains of links, and the way along the parents of a run is a chain.
use Rattle.std.proofs.lemmas.Bool.Decides.{nat_tests}
use Rattle.std.proofs.lemmas.Grind.{common_steps}
use Rattle.std.proofs.Common.{arith, ◌≡◌, ℕ, refl, ap, sym, ◌∙◌, subst, true, false, List, [], ◌∷◌, ◌++◌}
use Rattle.std.specs.Prelude.{Some, map}
use Rattle.std.proofs.lemmas.List.{map-append}
use Rattle.root2_cost.specs.declared.Cost.{Cost}
use Rattle.root2_cost.specs.Sums.{add_costs, no_cost}
use Rattle.root2_cost.proofs.Sums.{add_costs-assoc, add_costs-no_cost_left, add_costs-no_cost_right}
use Rattle.grid_moves.specs.declared.Cell.{Cell}
use Rattle.grid_moves.specs.declared.Dir.{Dir}
use Rattle.grid_moves.specs.Grid.{GridData}
use Rattle.pruning.specs.declared.Arrival.{Arrival}
use Rattle.pruning.specs.Allowed.{is_allowed, come_to}
use Rattle.pruning.specs.Chain.{start_state, run_cost, IsJump, IsChain, stays, jumps, last_state}
use Rattle.pruning.specs.Chain.{State as Stop}
use Rattle.pruning.proofs.Stopping.{only_one_first_stop}
use Rattle.search_run.specs.Run.{Rule, Taken, IsIn, here, there, IsRun, is_taken, way_to}
use Rattle.search_run.specs.Chain.{Chain, IsConsistent, stays as links_nowhere, goes_on as links_on}
use Rattle.search_run.proofs.Leastness.{least_offer-from, is_taken-member}
use Rattle.best_first.specs.declared.state.Layout.{Layout}
use Rattle.best_first.specs.declared.state.Layout.TheVariants.{ByArrival}
use Rattle.best_first.specs.declared.state.State.{State}
use Rattle.best_first.specs.State.{is_same_state, start_at, arrived_in}
use Rattle.best_first.proofs.Links.{consistent}
use Rattle.best_first.proofs.States.{is_same_state-state, is_same_state-itself}
use Rattle.search_core.specs.Jumps.{come_in, state_at, jump_link, jump_links, jump_rule}
use Rattle.search_core.proofs.Arrivals.{shown}
use Rattle.search_core.proofs.Links.{IsLink, step_is, jump_is_link, jumps_are_links, start_arrived}

-- a state of the search as chains have it
abbrev pub stop_of : State → Stop
stop_of s = record { cell = s.cell; arrival = come_to s.arrival }

come_again : (a : Arrival) → come_to (come_in a) ≡ a
come_again a = grind (arith, nat_tests, common_steps)

-- the estimate suits the rule of jumps
pub jumps_consistent : (layout : Layout) (g : GridData) (goal : Cell) → IsConsistent (jump_rule layout g goal)
jumps_consistent layout g goal =
    consistent g.width g.height goal (jump_links layout g goal) (jumps_are_links layout g goal)

module _ (g : GridData) (goal : Cell) where
  jump_linked : (s u : Stop) (d : Dir) (k : ℕ) → IsJump g goal s u d k
      → jump_link g goal (state_at s) (state_at u) ≡ Some (run_cost d k)
  jump_linked s u d k j = jump_is_link g goal (state_at s) (state_at u) d k
      (ap come_in j.arrives)
      (subst (λ (a : Arrival). is_allowed g s.cell a d ≡ true) (sym (come_again s.arrival)) j.allowed)
      (sym (only_one_first_stop g goal s.cell d (Some k) j.first)) j.reached

  pub chain_linked : (s : Stop) (states : List Stop) (cost : Cost) → IsChain g goal s states cost
      → Chain (jump_rule ByArrival g goal) (state_at s) (state_at (last_state s states)) cost
  chain_linked s _ _ (stays _) = links_nowhere (state_at s)
  chain_linked s _ _ (jumps _ u states d k rest j c) =
      links_on (state_at s) (state_at u) (state_at (last_state u states)) (run_cost d k) rest
      (λ p. jump_linked s u d k j) (chain_linked u states rest c)

  pub linked_jump : (u v : State) (c : Cost) (l : IsLink g goal u v c)
      → IsJump g goal (stop_of u) (stop_of v) l.dir l.moves
  linked_jump u v c l = grind (arith, nat_tests, common_steps)

  last-joined : (s u : Stop) (states : List Stop) → last_state s (states ++ u ∷ []) ≡ u
  last-joined s u [] = refl
  last-joined s u (v ∷ states) = last-joined v u states

  -- one jump more at the end of a chain
  one_more : (s u : Stop) (states : List Stop) (cost : Cost) (d : Dir) (k : ℕ) → IsChain g goal s states cost
      → IsJump g goal (last_state s states) u d k
      → IsChain g goal s (states ++ u ∷ []) (add_costs cost (run_cost d k))
  one_more s u _ _ d k (stays _) j =
      subst (λ (c : Cost). IsChain g goal s (u ∷ []) c)
      (add_costs-no_cost_right (run_cost d k) ∙ sym (add_costs-no_cost_left (run_cost d k)))
      (jumps s u [] d k no_cost j (stays u))
  one_more s u _ _ d k (jumps _ v states e n rest i c) j =
      subst (λ (p : Cost). IsChain g goal s (v ∷ states ++ u ∷ []) p)
      (sym (add_costs-assoc (run_cost e n) rest (run_cost d k)))
      (jumps s v (states ++ u ∷ []) e n (add_costs rest (run_cost d k)) i (one_more v u states rest d k c j))

-- the way to a taken state is a chain of the cost at which it was taken
pub record HasWay (layout : Layout) (g : GridData) (goal s : Cell)
    (run : List (Taken State)) (u : Taken State)
    : Type 0 where
  pub states : List Stop
  pub is_way : map (λ (v : State). v.cell) (way_to (jump_rule layout g goal) run u.state)
      ≡ s ∷ map (λ (v : Stop). v.cell) states
  pub chain : IsChain g goal (start_state s) states u.cost
  pub ends : last_state (start_state s) states ≡ stop_of (shown layout u)

module _ (layout : Layout) (g : GridData) (goal : Cell) where
  abbrev rule : Rule State
  rule = jump_rule layout g goal

  -- the way of an earlier state stays the same
  way_stays : (x : Taken State) (earlier : List (Taken State)) (v : State)
      → is_taken rule earlier x.state ≡ false → is_taken rule earlier v ≡ true
      → is_same_state x.state v ≡ false
  way_stays x earlier v n y = grind (arith, nat_tests, common_steps, is_same_state-state)

  -- the way over a parent, with one jump more
  goes_further : (s : Cell) (x : Taken State) (earlier : List (Taken State)) (by : Taken State) (c : Cost)
      → IsLink g goal (shown layout by) (shown layout x) c → by.state ≡ x.parent
      → x.cost ≡ add_costs by.cost c → HasWay layout g goal s earlier by
      → HasWay layout g goal s (x ∷ earlier) x
  goes_further s x earlier by c l parent total before =
      let jump : IsJump g goal (last_state (start_state s) before.states) (stop_of (shown layout x)) l.dir
      l.moves = subst (λ (p : Stop). IsJump g goal p (stop_of (shown layout x)) l.dir
      l.moves) (sym before.ends)
      (linked_jump g goal (shown layout by) (shown layout x) c l) in
      let chain = one_more g goal (start_state s) (stop_of (shown layout x)) before.states
      by.cost l.dir l.moves
      before.chain jump in
      let cost : add_costs by.cost (run_cost l.dir l.moves) ≡ x.cost =
      ap (λ (p : Cost). add_costs by.cost p) (sym l.priced) ∙ sym total in
      record {
        states = before.states ++ stop_of (shown layout x) ∷ [];
        is_way = rw (is_same_state-itself x.state)
            (map-append (λ (v : State). v.cell) (way_to rule earlier x.parent) (x.state ∷ [])
            ∙ ap (λ (cells : List Cell). cells ++ x.state.cell ∷ [])
            (ap (λ (p : State). map (λ (v : State). v.cell) (way_to rule earlier p)) (sym parent)
            ∙ before.is_way)
            ∙ ap (λ (cells : List Cell). s ∷ cells)
            (sym (map-append (λ (v : Stop). v.cell) before.states (stop_of (shown layout x) ∷ []))));
        chain = subst (λ (p : Cost). IsChain g goal (start_state s)
            (before.states ++ stop_of (shown layout x) ∷ []) p) cost chain;
        ends = last-joined g goal (start_state s) (stop_of (shown layout x)) before.states;
      }

  pub way : (s : Cell) (run : List (Taken State)) → IsRun rule (start_at s) run → (u : Taken State)
      → IsIn u run → HasWay layout g goal s run u
  way s [] is u m = absurd is
  way s (x ∷ []) is u (there z e m) = elim m [ ]
  way s (x ∷ []) is u (here e) =
      subst (λ (w : Taken State). HasWay layout g goal s (w ∷ []) w) (sym is) (record {
        states = [];
        is_way = rw (is_same_state-itself (start_at s)) refl;
        chain = stays (start_state s);
        ends = ap stop_of (sym (start_arrived layout s));
      })
  way s (x ∷ y ∷ earlier) is u (here e) =
      let from = least_offer-from rule (y ∷ earlier) x.state
      (record { cost = x.cost; from = x.parent }) is.2.offered in
      let l = (step_is layout g goal from.by.parent from.by.state x.state from.offered.step
      from.offered.linked).jump in
      goes_further s x (y ∷ earlier) from.by from.offered.step
      (subst (λ (p : State). IsLink g goal (shown layout from.by) (arrived_in layout p x.state)
      from.offered.step) (sym from.offered.source) l) (sym from.offered.source)
      from.offered.total (way s (y ∷ earlier) is.0 from.by from.member)
  way s (x ∷ y ∷ earlier) is u (there z e m) =
      let other = way_stays x (y ∷ earlier) u.state is.2.waits
      (is_taken-member rule (jumps_consistent layout g goal) (y ∷ earlier) u m) in
      let before = way s (y ∷ earlier) is.0 u m in
      record {
        states = before.states;
        is_way = rw other before.is_way;
        chain = before.chain;
        ends = before.ends;
      }
