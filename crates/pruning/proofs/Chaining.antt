-- Each canonical walk goes along a chain of first stops, where each allowed turn is explained.
use Rattle.std.proofs.Common.{◌≡◌, ℕ, zero, suc, ◌+◌, ◌<◌, ◌≤◌, ◌⊎◌, inl, inr, arith, true, false, not, refl}
use Rattle.std.proofs.Common.{ap, sym, ◌∙◌, subst, List, [], ◌∷◌, length}
use Rattle.std.specs.Prelude.{Some}
use Rattle.root2_cost.specs.declared.Cost.{Cost}
use Rattle.root2_cost.specs.Sums.{add_costs, no_cost}
use Rattle.root2_cost.proofs.AtMost.{same_at_most}
use Rattle.root2_cost.proofs.Less.{same_cost}
use Rattle.root2_cost.proofs.Sums.{add_costs-assoc, add_costs-no_cost_left}
use Rattle.grid_moves.specs.declared.Cell.{Cell}
use Rattle.grid_moves.specs.declared.Dir.{Dir}
use Rattle.grid_moves.specs.Grid.{GridData}
use Rattle.grid_moves.specs.Move.{ahead, legal_ahead, dir_cost}
use Rattle.grid_moves.specs.Walk.{cost_of, last_of}
use Rattle.pruning.specs.declared.Arrival.{Arrival}
use Rattle.pruning.specs.declared.Arrival.TheVariants.{Start, By}
use Rattle.pruning.specs.declared.turns.Side.{Side}
use Rattle.pruning.specs.Turns.{turn, is_diagonal}
use Rattle.pruning.specs.Marked.{run_end, is_forced, forces, looks_out}
use Rattle.grid_moves.specs.Least.{NoneBelow, IsLeast}
use Rattle.grid_moves.proofs.Costs.{cost_there}
use Rattle.pruning.specs.First.{is_stop}
use Rattle.pruning.specs.Stop.{IsStop, at_goal, marked, sees_goal, StopsAfter}
use Rattle.pruning.specs.Canonical.{IsAllowedMove, FollowsRule}
use Rattle.pruning.specs.Facts.{IsExplained, same, component, turns, TurnsAreMarked}
use Rattle.pruning.specs.Chain.{State, run_cost, IsChain, stays, jumps, last_state}
use Rattle.pruning.specs.Laws.{ChainsSuffice}
use Rattle.pruning.proofs.Table.{turn_parity, by_parity, by_test}
use Rattle.pruning.proofs.Bridging.{one_of, leads_legal, allowed_leads}
use Rattle.pruning.proofs.Runs.{run_end-next}
use Rattle.pruning.proofs.Stopping.{stops_are_decided}

-- one move and then k
pub run_cost-next : (d : Dir) (k : ℕ) → run_cost d (suc k) ≡ add_costs (dir_cost d) (run_cost d k)
run_cost-next d k = by_parity d (λ h. rw h (same_cost _ _ (omega arith) (omega arith)))
    (λ h. rw h (same_cost _ _ (omega arith) (omega arith)))

-- one move, then m, then the rest
pub leg_priced : (d : Dir) (m : ℕ) (rest : Cost)
    → add_costs (run_cost d (1 + m)) rest ≡ add_costs (dir_cost d) (add_costs (run_cost d m) rest)
leg_priced d m rest =
    ap (λ k. add_costs (run_cost d k) rest) (next m) ∙ ap (λ (c : Cost). add_costs c rest) (run_cost-next d m)
    ∙ add_costs-assoc (dir_cost d) (run_cost d m) rest
  where
    next : (m : ℕ) → 1 + m ≡ suc m
    next m = omega arith

pub run_cost-nothing : (d : Dir) → run_cost d 0 ≡ no_cost
run_cost-nothing d = by_parity d (λ h. rw h refl) (λ h. rw h refl)

module _ (explained : TurnsAreMarked) (g : GridData) (t : Cell) where
  -- on the run from v in d, or at v, there is the goal or a forced neighbour
  record SeesSome (d : Dir) (v : Cell) : Type 0 where
    pub moves : ℕ
    pub cell : Cell
    pub reached : run_end g d moves v ≡ Some cell
    pub holds : (cell ≡ t) ⊎ (is_forced g cell d ≡ true)

  further : (d : Dir) (v w : Cell) → legal_ahead g v d ≡ Some w → SeesSome d w → SeesSome d v
  further d v w e r = record { moves = suc r.moves; cell = r.cell; reached = rw e r.reached; holds = r.holds }

  -- a walk that goes on straight turns at a forced neighbour, or ends at the goal
  straight_sees : (d : Dir) → is_diagonal d ≡ false → (v : Cell) (cells : List Cell)
      → FollowsRule g (By d) v cells → last_of v cells ≡ t → SeesSome d v
  straight_sees d h v [] f e = record { moves = 0; cell = v; reached = refl; holds = inl e }
  straight_sees d h v (w ∷ cells) (c, m, f) e =
      by_turn c m (explained g v d c m.allowed) f (λ k. straight_sees d h w cells k e)
    where
      by_turn : (c : Dir) → IsAllowedMove g (By d) v w c → IsExplained g v d c
          → FollowsRule g (By c) w cells → (FollowsRule g (By d) w cells → SeesSome d w) → SeesSome d v
      by_turn _ m same f next = further d v w (leads_legal g v w d (allowed_leads g (By d) v w d m)) (next f)
      by_turn _ m (component k s) f next = absurd (cc)
      by_turn c m (turns (forces k) _) f next =
          record { moves = 0; cell = v; reached = refl; holds = inr k }
      by_turn c m (turns (looks_out k s r) _) f next = absurd (cc)

  -- what is seen from w in a component, a move from v, makes v a stop
  seen_stop : (d : Dir) (s : Side) (v w : Cell) → is_diagonal d ≡ true
      → legal_ahead g v (turn s d) ≡ Some w → SeesSome (turn s d) w → IsStop g t d v
  seen_stop d s v w h e r = elim r.holds [
    | inl k ↦ sees_goal h s (record {
      moves = suc r.moves;
      some = omega arith;
      cell = r.cell;
      reached = grind arith;
      holds = k;
    })
    | inr k ↦ marked (looks_out h s (record
        { moves = suc r.moves; some = omega arith; cell = r.cell; reached = rw e r.reached; holds = k }))
  ]

  -- a walk that came by d stops where it stands, or goes on in d
  goes_on : (d : Dir) (v w : Cell) (cells : List Cell) → (c : Dir) → IsAllowedMove g (By d) v w c
      → IsExplained g v d c → FollowsRule g (By c) w cells → last_of w cells ≡ t
      → IsStop g t d v ⊎ ((legal_ahead g v d ≡ Some w) × (ahead d v ≡ Some w) × FollowsRule g (By d) w cells)
  goes_on d v w cells _ m same f e = inr (leads_legal g v w d (allowed_leads g (By d) v w d m), m.leads, f)
  goes_on d v w cells _ m (component h s) f e =
      let l = leads_legal g v w (turn s d) (allowed_leads g (By d) v w (turn s d) m) in
      inl (seen_stop d s v w h l (straight_sees (turn s d) (turn_parity s d ∙ ap not h) w cells f e))
  goes_on d v w cells c m (turns k _) f e = inl (marked k)

  -- the first stop of a jump from x in d lies on the walk from v, k moves on
  pub record IsNext (x : Cell) (d : Dir) (k : ℕ) (v : Cell) (cells : List Cell) : Type 0 where
    pub more : ℕ
    pub cell : Cell
    pub left : List Cell
    pub first : IsLeast (StopsAfter g t x d) 1 (k + more)
    pub reached : run_end g d (k + more) x ≡ Some cell
    pub rule : FollowsRule g (By d) cell left
    pub ends : last_of cell left ≡ t
    pub priced : cost_of (v ∷ cells) ≡ add_costs (run_cost d more) (cost_of (cell ∷ left))
    pub fewer : length left ≤ length cells

  -- no stop after k moves either
  none_yet : (x v : Cell) (d : Dir) (k : ℕ) → run_end g d k x ≡ Some v → (IsStop g t d v → ⊥)
      → NoneBelow (StopsAfter g t x d) 1 k → NoneBelow (StopsAfter g t x d) 1 (suc k)
  none_yet x v d k r n b j l h s = elim (below j k (omega arith)) [
    | inl less ↦ b j l less s
    | inr at ↦ n (subst (λ (c : Cell). IsStop g t d c)
        (one_of s.cell v (sym s.reached ∙ ap (λ i. run_end g d i x) at ∙ r)) s.stops)
  ]
    where
      below : (j k : ℕ) → j ≤ k → (j < k) ⊎ (j ≡ k)
      below j k h = grind arith

  stops_here : (x : Cell) (d : Dir) (k : ℕ) (v : Cell) (cells : List Cell) → 1 ≤ k
      → run_end g d k x ≡ Some v → NoneBelow (StopsAfter g t x d) 1 k → FollowsRule g (By d) v cells
      → last_of v cells ≡ t → IsStop g t d v → IsNext x d k v cells
  stops_here x d k v cells i r b f e s =
      let plus : k + 0 ≡ k = omega arith in
      record {
        more = 0;
        cell = v;
        left = cells;
        first =
            rw plus (record { in_range = i; holds = record { cell = v; reached = r; stops = s }; least = b });
        reached = rw plus r;
        rule = f;
        ends = e;
        priced = rw (run_cost-nothing d) (sym (add_costs-no_cost_left (cost_of (v ∷ cells))));
        fewer = omega arith;
      }

  stops_later : (x : Cell) (d : Dir) (k : ℕ) (v w : Cell) (cells : List Cell) → ahead d v ≡ Some w
      → IsNext x d (suc k) w cells → IsNext x d k v (w ∷ cells)
  stops_later x d k v w cells a n =
      let plus : k + suc n.more ≡ suc k + n.more = omega arith in
      record {
        more = suc n.more;
        cell = n.cell;
        left = n.left;
        first = rw plus n.first;
        reached = rw plus n.reached;
        rule = n.rule;
        ends = n.ends;
        priced = grind (arith, cost_there, run_cost-next, add_costs-assoc, dir_cost);
        fewer = (let less = n.fewer in omega arith);
      }

  no_stop : (v : Cell) (d : Dir) → is_stop g t d v ≡ false → IsStop g t d v → ⊥
  no_stop v d n s = let stops = (stops_are_decided g t d v).complete s in absurd (cc)

  pub next_stop : (x : Cell) (d : Dir) (k : ℕ) (v : Cell) (cells : List Cell) → 1 ≤ k
      → run_end g d k x ≡ Some v → NoneBelow (StopsAfter g t x d) 1 k → FollowsRule g (By d) v cells
      → last_of v cells ≡ t → IsNext x d k v cells
  next_stop x d k v [] i r b f e = stops_here x d k v [] i r b f e (at_goal e)
  next_stop x d k v (w ∷ cells) i r b (c, m, f) e = by_test (is_stop g t d v)
      (λ s. stops_here x d k v (w ∷ cells) i r b (c, m, f) e ((stops_are_decided g t d v).sound s))
      (λ n. elim (goes_on d v w cells c m (explained g v d c m.allowed) f e) [
        | inl s ↦ stops_here x d k v (w ∷ cells) i r b (c, m, f) e s
        | inr on ↦ stops_later x d k v w cells on.1
            (next_stop x d (suc k) w cells (omega arith) (run_end-next g d k x v w r on.0)
            (none_yet x v d k r (no_stop v d n) b) on.2 e)
      ])

  -- the cell m moves on, on the run from x in d, lies on the walk from v, k moves from x
  pub record IsOnWay (x : Cell) (d : Dir) (k m : ℕ) (v : Cell) (cells : List Cell) : Type 0 where
    pub cell : Cell
    pub left : List Cell
    pub reached : run_end g d (k + m) x ≡ Some cell
    pub rule : FollowsRule g (By d) cell left
    pub ends : last_of cell left ≡ t
    pub priced : cost_of (v ∷ cells) ≡ add_costs (run_cost d m) (cost_of (cell ∷ left))
    pub fewer : length left ≤ length cells

  on_later : (x : Cell) (d : Dir) (k m : ℕ) (v w : Cell) (cells : List Cell) → ahead d v ≡ Some w
      → IsOnWay x d (suc k) m w cells → IsOnWay x d k (suc m) v (w ∷ cells)
  on_later x d k m v w cells a n =
      let plus : k + suc m ≡ suc k + m = omega arith in
      record {
        cell = n.cell;
        left = n.left;
        reached = rw plus n.reached;
        rule = n.rule;
        ends = n.ends;
        priced = grind (arith, cost_there, run_cost-next, add_costs-assoc, dir_cost);
        fewer = (let less = n.fewer in omega arith);
      }

  -- so it is of all that no stop lies before
  pub on_way : (x : Cell) (d : Dir) (k m : ℕ) (v : Cell) (cells : List Cell) → 1 ≤ k
      → run_end g d k x ≡ Some v → NoneBelow (StopsAfter g t x d) 1 (k + m) → FollowsRule g (By d) v cells
      → last_of v cells ≡ t → IsOnWay x d k m v cells
  on_way x d k zero v cells i r b f e =
      let plus : k + 0 ≡ k = omega arith in
      record {
        cell = v;
        left = cells;
        reached = rw plus r;
        rule = f;
        ends = e;
        priced = rw (run_cost-nothing d) (sym (add_costs-no_cost_left (cost_of (v ∷ cells))));
        fewer = omega arith;
      }
  on_way x d k (suc m) v [] i r b f e =
      absurd (b k i (omega arith) (record { cell = v; reached = r; stops = at_goal e }))
  on_way x d k (suc m) v (w ∷ cells) i r b (c, a, f) e =
      elim (goes_on d v w cells c a (explained g v d c a.allowed) f e) [
        | inl s ↦ absurd (b k i (omega arith) (record { cell = v; reached = r; stops = s }))
        | inr on ↦ on_later x d k m v w cells on.1
            (on_way x d (suc k) m w cells (omega arith) (run_end-next g d k x v w r on.0)
            (λ j l h. b j l (omega arith)) on.2 e)
      ]

  -- a chain along the walk, of the walk's cost
  record HasChainAlong (by : Arrival) (x : Cell) (cells : List Cell) : Type 0 where
    pub states : List State
    pub cost : Cost
    pub chain : IsChain g t (record { cell = x; arrival = by }) states cost
    pub ends : (last_state (record { cell = x; arrival = by }) states).cell ≡ t
    pub priced : cost ≡ cost_of (x ∷ cells)

  -- a jump and the chain after it
  chain_joined : (by : Arrival) (x v : Cell) (d : Dir) (cells : List Cell) → IsAllowedMove g by x v d
      → (n : IsNext x d 1 v cells) → HasChainAlong (By d) n.cell n.left → HasChainAlong by x (v ∷ cells)
  chain_joined by x v d cells m n rest = record {
    states = record { cell = n.cell; arrival = By d } ∷ rest.states;
    cost = add_costs (run_cost d (1 + n.more)) rest.cost;
    chain = jumps _ _ _ d (1 + n.more) _
        (record { allowed = m.allowed; first = n.first; reached = n.reached; arrives = refl }) rest.chain;
    ends = rest.ends;
    priced = grind (arith, cost_there);
  }

  chain_along : (n : ℕ) (by : Arrival) (x : Cell) (cells : List Cell) → length cells < n
      → FollowsRule g by x cells → last_of x cells ≡ t → HasChainAlong by x cells
  chain_along zero by x cells l f e = absurd (omega arith)
  chain_along (suc n) by x [] l f e =
      record { states = []; cost = no_cost; chain = stays _; ends = e; priced = refl }
  chain_along (suc n) by x (v ∷ cells) l (d, m, f) e =
      let step = leads_legal g x v d (allowed_leads g by x v d m) in
      let next =
      next_stop x d 1 v cells (omega arith) (rw step refl) (λ k low high s. absurd (omega arith)) f e in
      chain_joined by x v d cells m next
      (chain_along n (By d) next.cell next.left (let few = next.fewer in omega arith) next.rule next.ends)

-- the second law, from the second fact
pub chains_from : TurnsAreMarked → ChainsSuffice
chains_from explained g s t cells w =
    let c = chain_along explained g t (suc (length cells)) Start s cells (omega arith) w.pruned w.walk.ends in
    record {
      states = c.states;
      cost = c.cost;
      chain = c.chain;
      ends = c.ends;
      no_more = grind (arith, same_at_most);
    }
