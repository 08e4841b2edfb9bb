-- A search that keeps one state for each cell misses no least walk: where its arrival drops a turn, the
-- diagonal move goes first, from the cell that it came from.
use Rattle.std.proofs.Common.{◌≡◌, ◌≢◌, ℕ, zero, suc, ◌+◌, ◌-◌, ◌<◌, ◌≤◌, ◌⊎◌, inl, inr, arith, true, false}
use Rattle.std.proofs.Common.{refl, ap, sym, ◌∙◌, subst, List, [], ◌∷◌, ◌++◌, length}
use Rattle.root2_cost.specs.declared.Cost.{Cost}
use Rattle.root2_cost.specs.Order.{IsAtMost, is_less}
use Rattle.root2_cost.specs.Sums.{add_costs, no_cost}
use Rattle.root2_cost.proofs.AtMost.{IsAtMost-antisymmetric}
use Rattle.root2_cost.proofs.Less.{same_cost}
use Rattle.root2_cost.proofs.Sums.{add_costs-assoc, add_costs-no_cost_left, IsAtMost-cancel_left}
use Rattle.root2_cost.proofs.Most.{Most, Most-then, Most-same, Most-add_left, Most-add_right}
use Rattle.root2_cost.proofs.Most.{Most-cancel_right}
use Rattle.grid_moves.specs.declared.Cell.{Cell}
use Rattle.grid_moves.specs.declared.Dir.{Dir}
use Rattle.grid_moves.specs.Grid.{GridData, is_free}
use Rattle.grid_moves.specs.Least.{NoneBelow}
use Rattle.grid_moves.specs.Move.{is_legal, is_same, dir_cost, move_cost}
use Rattle.grid_moves.specs.Walk.{IsWalk, is_walk, cost_of, last_of}
use Rattle.grid_moves.proofs.Costs.{cost_there}
use Rattle.grid_moves.proofs.Legal.{and_both, legal_is, is_same-cell, is_same-itself}
use Rattle.grid_moves.proofs.Walks.{Goes, last_free, last-joined, walk-joined, cost-joined}
use Rattle.pruning.specs.declared.Arrival.{Arrival}
use Rattle.pruning.specs.declared.Arrival.TheVariants.{Start, By}
use Rattle.pruning.specs.Turns.{is_diagonal}
use Rattle.pruning.specs.Allowed.{is_allowed}
use Rattle.pruning.specs.Canonical.{IsAllowedMove, FollowsRule, IsCanonicalWalk}
use Rattle.pruning.specs.Stop.{StopsAfter}
use Rattle.pruning.specs.Chain.{start_state, run_cost}
use Rattle.pruning.specs.Swap.{NoneCheaper, IsSwapped, DroppedTurnsAreSwapped, DiagonalsGoFirst}
use Rattle.pruning.specs.Explored.{Reached, IsOneOf, here, there, IsHop, HopsTo, AreReached, begun, further}
use Rattle.pruning.specs.Explored.{IsReachedAt, Stops, PassesNoStop, OffersMore, OneStateSuffices}
use Rattle.pruning.proofs.Table.{by_parity, by_test}
use Rattle.pruning.proofs.Bridging.{Leads, leads_can, leads_legal, legal_leads, allowed_leads}
use Rattle.pruning.proofs.Running.{run_walked}
use Rattle.pruning.proofs.Chaining.{leg_priced, IsNext, next_stop, IsOnWay, on_way}
use Rattle.pruning.proofs.Law.{canonical_from}
use Rattle.pruning.proofs.Replacing.{turns_are_replaced}
use Rattle.pruning.proofs.Explaining.{turns_are_marked}

-- the state that a search from s begins with, at no cost
abbrev pub beginning : Cell → Reached
beginning s = record { state = start_state s; cost = no_cost }

-- what holds of the first one and of each of the rest holds of each
pub each_of : (P : Reached → Type 0) (x : Reached) (earlier : List Reached) → P x
    → ((u : Reached) → IsOneOf u earlier → P u) → (u : Reached) → IsOneOf u (x ∷ earlier) → P u
each_of P _ _ h rest u (here _) = h
each_of P _ _ h rest u (there _ _ m) = rest u m

pub no_member : (u : Reached) → IsOneOf u [] → ⊥
no_member u m = elim m [ ]

begin_member : (g : GridData) (t s : Cell) (all : List Reached) → AreReached g t s all
    → IsOneOf (beginning s) all
begin_member g t s _ begun = here []
begin_member g t s _ (further x p earlier r m l) = there x earlier (begin_member g t s earlier r)

-- what holds of the start, and of each that is come to from one of which it holds, holds of all
reached_induction : (g : GridData) (t s : Cell) (all : List Reached) (P : Reached → Type 0)
    → P (beginning s)
    → ((p u : Reached) → IsOneOf p all → P p → HopsTo g t p u → P u)
    → (list : List Reached) → ((u : Reached) → IsOneOf u list → IsOneOf u all) → AreReached g t s list
    → (u : Reached) → IsOneOf u list → P u
reached_induction g t s all P h next _ sub begun =
    each_of P (beginning s) [] h (λ v n. absurd (no_member v n))
reached_induction g t s all P h next _ sub (further x p earlier r i l) =
    let before = λ (v : Reached) (n : IsOneOf v earlier). sub v (there x earlier n) in
    let rest = reached_induction g t s all P h next earlier before r in
    each_of P x earlier (next p x (before p i) (rest p i) l) rest

-- a cell is among them at no more than a cost, or not
reached_or_not : (all : List Reached) (v : Cell) (c : Cost)
    → IsReachedAt all v c ⊎ (IsReachedAt all v c → ⊥)
reached_or_not [] v c = inr (λ r. no_member r.by r.member)
reached_or_not (x ∷ all) v c = elim (reached_or_not all v c) [
  | inl r ↦ inl
      (record { by = r.by; member = there x all r.member; cell = r.cell; no_more = r.no_more })
  | inr n ↦ by_test (is_same x.state.cell v)
      (λ h. by_test (is_less c x.cost)
      (λ k. inr (neither n (λ e m. not_both k m)))
      (λ k. inl (record {
        by = x;
        member = here all;
        cell = is_same-cell x.state.cell v h;
        no_more = k;
      })))
      (λ h. inr (neither n (λ e m. differ h e)))
]
  where
    neither : (IsReachedAt all v c → ⊥) → (x.state.cell ≡ v → IsAtMost x.cost c → ⊥)
        → IsReachedAt (x ∷ all) v c → ⊥
    neither n h r = each_of (λ u. u.state.cell ≡ v → IsAtMost u.cost c → ⊥) x all h
        (λ u m e k. n (record { by = u; member = m; cell = e; no_more = k })) r.by r.member r.cell r.no_more

    not_both : is_less c x.cost ≡ true → IsAtMost x.cost c → ⊥
    not_both h k = absurd (cc)

    differ : is_same x.state.cell v ≡ false → x.state.cell ≡ v → ⊥
    differ h e =
        let same = subst (λ (y : Cell). is_same x.state.cell y ≡ true) e (is_same-itself x.state.cell) in
        absurd (cc)

-- cells that follow the rule are a walk, and follow it from the start
rule_walks : (g : GridData) (by : Arrival) (u : Cell) (cells : List Cell) → is_free g u ≡ true
    → FollowsRule g by u cells → is_walk g (u ∷ cells) ≡ true
rule_walks g by u [] h f = h
rule_walks g by u (v ∷ cells) h (d, m, f) =
    let l = allowed_leads g by u v d m in
    rw (l.legal, rule_walks g (By d) v cells (legal_is g u v l.legal).target f) refl

rule_started : (g : GridData) (by : Arrival) (u : Cell) (cells : List Cell) → FollowsRule g by u cells
    → FollowsRule g Start u cells
rule_started g by u [] f = tt
rule_started g by u (v ∷ cells) (d, m, f) = (
  d,
  record { leads = m.leads; allowed = leads_can g u v d (allowed_leads g by u v d m) },
  f,
)

-- a walk and what goes on from its end
pub goes_further : (g : GridData) (s p v : Cell) (first cells : List Cell) (c : Cost) → Goes g s p first c
    → IsWalk g p v cells → Goes g s v (first ++ cells) (add_costs c (cost_of (p ∷ cells)))
goes_further g s p v first cells c w k = record {
  legal = walk-joined g s first cells w.legal
      (subst (λ (x : Cell). is_walk g (x ∷ cells) ≡ true) (sym w.ends) k.legal);
  ends = last-joined s first cells ∙ ap (λ (x : Cell). last_of x cells) w.ends ∙ k.ends;
  priced = cost-joined s first cells
      ∙ ap (λ (x : Cell). add_costs (cost_of (s ∷ first)) (cost_of (x ∷ cells))) w.ends
      ∙ ap (λ (q : Cost). add_costs q (cost_of (p ∷ cells))) w.priced;
}

-- costs alone
cancel_both : (c m x r : Cost) → Most (add_costs c (add_costs m r)) (add_costs (add_costs c x) r) → Most m x
cancel_both c m x r h = Most-cancel_right (add_costs c r) m x
    (Most-then (Most-same (same_cost (add_costs m (add_costs c r)) (add_costs c (add_costs m r))
    (omega arith) (omega arith)))
    (Most-then h (Most-same (same_cost (add_costs (add_costs c x) r) (add_costs x (add_costs c r))
    (omega arith) (omega arith)))))

leg_total : (c : Cost) (d : Dir) (m : ℕ) (move tail rest : Cost) → move ≡ dir_cost d
    → tail ≡ add_costs (run_cost d m) rest
    → add_costs c (add_costs move tail) ≡ add_costs (add_costs c (run_cost d (1 + m))) rest
leg_total c d m move tail rest h k =
    ap (λ (q : Cost). add_costs c (add_costs q tail)) h
    ∙ ap (λ (q : Cost). add_costs c (add_costs (dir_cost d) q)) k
    ∙ ap (λ (q : Cost). add_costs c q) (sym (leg_priced d m rest))
    ∙ sym (add_costs-assoc c (run_cost d (1 + m)) rest)

back_total : (u c run move dir tail : Cost) → u ≡ add_costs c run → move ≡ dir
    → add_costs u (add_costs move tail) ≡ add_costs c (add_costs (add_costs run dir) tail)
back_total u c run move dir tail h k =
    ap (λ (q : Cost). add_costs q (add_costs move tail)) h
    ∙ ap (λ (q : Cost). add_costs (add_costs c run) (add_costs q tail)) k
    ∙ same_cost (add_costs (add_costs c run) (add_costs dir tail))
    (add_costs c (add_costs (add_costs run dir) tail)) (omega arith) (omega arith)

swap_most : (c move dir run rest tail total : Cost) → move ≡ dir → Most rest (add_costs run tail)
    → total ≡ add_costs c (add_costs (add_costs run dir) tail)
    → Most (add_costs c (add_costs move rest)) total
swap_most c move dir run rest tail total h m e =
    Most-then (Most-same (ap (λ (q : Cost). add_costs c (add_costs q rest)) h))
    (Most-then (Most-add_left c (add_costs dir rest) (add_costs dir (add_costs run tail))
    (Most-add_left dir rest (add_costs run tail) m))
    (Most-same (same_cost (add_costs c (add_costs dir (add_costs run tail)))
    (add_costs c (add_costs (add_costs run dir) tail)) (omega arith) (omega arith) ∙ sym e)))

-- how many diagonal moves there are
as_many : (c new total run dir tail : Cost) → add_costs c new ≡ total
    → total ≡ add_costs c (add_costs (add_costs run dir) tail) → run.b ≡ 0 → new.b ≤ dir.b + tail.b
as_many c new total run dir tail h k z =
    let one = ap (λ (q : Cost). q.b) h in let two = ap (λ (q : Cost). q.b) k in omega arith

no_more_left : (tail run rest : Cost) → tail ≡ add_costs run rest → rest.b ≤ tail.b
no_more_left tail run rest h = let one = ap (λ (q : Cost). q.b) h in omega arith

run_straight : (d : Dir) (k : ℕ) → is_diagonal d ≡ false → (run_cost d k).b ≡ 0
run_straight d k h = rw h refl

one_diagonal : (d : Dir) → is_diagonal d ≡ true → (dir_cost d).b ≡ 1
one_diagonal d h = rw h refl

module _ (g : GridData) (s t : Cell) where
  -- a walk from s to v, at this cost
  pub record CameTo (v : Cell) (c : Cost) : Type 0 where
    pub cells : List Cell
    pub goes : Goes g s v cells c

  came_further : (p v : Cell) (c : Cost) (cells : List Cell) → CameTo p c → IsWalk g p v cells
      → CameTo v (add_costs c (cost_of (p ∷ cells)))
  came_further p v c cells w k =
      record { cells = w.cells ++ cells; goes = goes_further g s p v w.cells cells c w.goes k }

  came_most : (b c : Cost) → NoneCheaper g s t b → CameTo t c → Most b c
  came_most b c n w = record {
    is = subst (λ (q : Cost). IsAtMost b q) w.goes.priced
        (n w.cells (record { legal = w.goes.legal; ends = w.goes.ends }));
  }

  -- no part of a walk that none undercuts can be undercut
  between : (p v : Cell) (c m : Cost) (cells : List Cell) → CameTo p c → IsWalk g v t cells
      → NoneCheaper g s t (add_costs c (add_costs m (cost_of (v ∷ cells)))) → NoneCheaper g p v m
  between p v c m cells w k n = λ others o.
      (cancel_both c m (cost_of (p ∷ others)) (cost_of (v ∷ cells)) (came_most _ _ n
      (came_further v t (add_costs c (cost_of (p ∷ others))) cells (came_further p v c others w o) k))).is

  onward : (p : Cell) (c m : Cost) → CameTo p c → NoneCheaper g s t (add_costs c m) → NoneCheaper g p t m
  onward p c m w n = λ others o.
      IsAtMost-cancel_left c m (cost_of (p ∷ others)) (came_most _ _ n (came_further p t c others w o)).is

  -- this canonical walk on from u, come to at this cost, makes a walk from s to t that none undercuts
  record IsGood (u : Cell) (c : Cost) (left : List Cell) : Type 0 where
    pub rule : IsCanonicalWalk g u t left
    pub least : NoneCheaper g s t (add_costs c (cost_of (u ∷ left)))

  -- so it is at a cost that is no more
  good_at : (x y : Cell) (c k : Cost) (left : List Cell) → y ≡ x → Most k c → IsGood x c left
      → IsGood y k left
  good_at x y c k left e m h = subst (λ (z : Cell). IsGood z k left) (sym e) (record {
    rule = h.rule;
    least = λ others o. (Most-then (Most-add_right (cost_of (x ∷ left)) k c m)
        (record { is = h.least others o })).is;
  })

  -- the walk after its first move
  good_walk : (u v : Cell) (c : Cost) (cells : List Cell) → IsGood u c (v ∷ cells) → IsWalk g v t cells
  good_walk u v c cells h = record {
    legal = (and_both (is_legal g u v) (is_walk g (v ∷ cells)) h.rule.walk.legal).1;
    ends = h.rule.walk.ends;
  }

  -- the first move
  good_move : (u v : Cell) (c : Cost) (cells : List Cell) (h : IsGood u c (v ∷ cells))
      → Leads g u v h.rule.pruned.0
  good_move u v c cells h = allowed_leads g Start u v h.rule.pruned.0 h.rule.pruned.1

  hop_came : (p u : Reached) → is_free g s ≡ true → CameTo p.state.cell p.cost → HopsTo g t p u
      → CameTo u.state.cell u.cost
  hop_came p u f w l =
      let p_free = subst (λ (x : Cell). is_free g x ≡ true) w.goes.ends
      (last_free g s w.cells w.goes.legal) in
      let r = run_walked g l.dir l.moves p.state.cell u.state.cell p_free l.hop.reached in
      subst (λ (c : Cost). CameTo u.state.cell c)
      (ap (λ (c : Cost). add_costs p.cost c) r.priced ∙ sym l.priced)
      (came_further p.state.cell u.state.cell p.cost r.cells w (record { legal = r.walks; ends = r.ends }))

  pub came_to : (all : List Reached) → is_free g s ≡ true → AreReached g t s all → (u : Reached)
      → IsOneOf u all → CameTo u.state.cell u.cost
  came_to all f r u m = reached_induction g t s all (λ (u : Reached). CameTo u.state.cell u.cost)
      (record { cells = []; goes = record { legal = f; ends = refl; priced = refl } })
      (λ p u i w l. hop_came p u f w l) all (λ u i. i) r u m

  -- from p a rest that begins with a diagonal move, of which there are no more than these
  record IsGoodBefore (p : Cell) (c : Cost) (count : ℕ) : Type 0 where
    pub first : Cell
    pub left : List Cell
    pub good : IsGood p c (first ∷ left)
    pub diagonal : (move_cost p first).b ≡ 1
    pub no_more : (cost_of (p ∷ first ∷ left)).b ≤ count

module _ (dropped : DroppedTurnsAreSwapped) (diagonals : DiagonalsGoFirst) (g : GridData) (s t : Cell) where
  -- a next move after a hop is allowed, or swaps with it
  allowed_or_swaps : (p u : Reached) (v : Cell) (cells : List Cell) (e : Dir)
      → CameTo g s t p.state.cell p.cost → (j : HopsTo g t p u)
      → IsGood g s t u.state.cell u.cost (v ∷ cells) → Leads g u.state.cell v e
      → (is_allowed g u.state.cell u.state.arrival e ≡ true) ⊎ IsSwapped g p.state.cell v j.dir e j.moves
  allowed_or_swaps p u v cells e w j h l = by_test (is_allowed g u.state.cell u.state.arrival e) (λ a. inl a)
      (λ n. inr (dropped g t p.state.cell u.state.cell v j.dir e j.moves j.hop.some
      j.hop.no_stop_before j.hop.reached
      (leads_legal g u.state.cell v e l)
      (subst (λ (a : Arrival). is_allowed g u.state.cell a e ≡ false) j.hop.arrives n)
      (between g s t p.state.cell v p.cost (add_costs (run_cost j.dir j.moves) (dir_cost e)) cells w
      (good_walk g s t u.state.cell v u.cost cells h)
      (subst (λ (c : Cost). NoneCheaper g s t c)
      (back_total u.cost p.cost (run_cost j.dir j.moves) (move_cost u.state.cell v) (dir_cost e)
      (cost_of (v ∷ cells)) j.priced (cost_there e u.state.cell v l.ahead_is)) h.least))))

  -- and so the cell that was come from is good with the diagonal move first
  swapped_good : (p v : Cell) (c total : Cost) (d e : Dir) (k : ℕ) (cells : List Cell) → CameTo g s t p c
      → IsWalk g v t cells → IsSwapped g p v d e k
      → total ≡ add_costs c (add_costs (add_costs (run_cost d k) (dir_cost e)) (cost_of (v ∷ cells)))
      → NoneCheaper g s t total
      → IsGoodBefore g s t p c ((dir_cost e).b + (cost_of (v ∷ cells)).b)
  swapped_good p v c total d e k cells w i sw eq least =
      let l = legal_leads g p sw.by e sw.first in
      let r = run_walked g d k sw.by v (legal_is g p sw.by l.legal).target sw.run in
      let joined = goes_further g sw.by v t r.cells cells (run_cost d k)
      (record { legal = r.walks; ends = r.ends; priced = r.priced }) i in
      let h = canonical_from turns_are_replaced g sw.by t (r.cells ++ cells)
      (record { legal = joined.legal; ends = joined.ends }) in
      let same_move = cost_there e p sw.by l.ahead_is in
      let new : Cost = cost_of (p ∷ sw.by ∷ h.others) in
      let most : Most (add_costs c new) total =
      swap_most c (move_cost p sw.by) (dir_cost e) (run_cost d k) (cost_of (sw.by ∷ h.others))
      (cost_of (v ∷ cells)) total same_move
      (Most-then (record { is = h.no_more }) (Most-same joined.priced)) eq in
      let new_least : NoneCheaper g s t (add_costs c new) =
      λ others o. (Most-then most (record { is = least others o })).is in
      let canonical = diagonals g p sw.by t e h.others sw.first sw.diagonal h.canonical
      (onward g s t p c new w new_least) in
      let back = came_most g s t total (add_costs c new) least
      (came_further g s t p t c (sw.by ∷ h.others) w canonical.walk) in
      record {
        first = sw.by;
        left = h.others;
        good = record { rule = canonical; least = new_least };
        diagonal = ap (λ (q : Cost). q.b) same_move ∙ one_diagonal e sw.diagonal;
        no_more = as_many c new total (run_cost d k) (dir_cost e) (cost_of (v ∷ cells))
            (IsAtMost-antisymmetric (add_costs c new) total most.is back.is) eq
            (run_straight d k sw.straight);
      }

  back_good : (p u : Reached) (v : Cell) (cells : List Cell) (e : Dir)
      → CameTo g s t p.state.cell p.cost → (j : HopsTo g t p u)
      → IsGood g s t u.state.cell u.cost (v ∷ cells) → Leads g u.state.cell v e
      → IsSwapped g p.state.cell v j.dir e j.moves
      → IsGoodBefore g s t p.state.cell p.cost (cost_of (u.state.cell ∷ v ∷ cells)).b
  back_good p u v cells e w j h l sw =
      let move = cost_there e u.state.cell v l.ahead_is in
      subst (λ (c : Cost). IsGoodBefore g s t p.state.cell p.cost (c.b + (cost_of (v ∷ cells)).b)) (sym move)
      (swapped_good p.state.cell v p.cost (add_costs u.cost (cost_of (u.state.cell ∷ v ∷ cells))) j.dir e
      j.moves cells w (good_walk g s t u.state.cell v u.cost cells h) sw
      (back_total u.cost p.cost (run_cost j.dir j.moves) (move_cost u.state.cell v) (dir_cost e)
      (cost_of (v ∷ cells)) j.priced move) h.least)

  module _ (all : List Reached) (f : is_free g s ≡ true) (r : AreReached g t s all) where
    came : (u : Reached) → IsOneOf u all → CameTo g s t u.state.cell u.cost
    came u m = came_to g s t all f r u m

    -- a straight next move is allowed
    abbrev AllowsStraight : Reached → Type 0
    AllowsStraight u = (v : Cell) (cells : List Cell) (e : Dir)
        → IsGood g s t u.state.cell u.cost (v ∷ cells) → Leads g u.state.cell v e → is_diagonal e ≡ false
        → is_allowed g u.state.cell u.state.arrival e ≡ true

    straight_after : (p u : Reached) → CameTo g s t p.state.cell p.cost → HopsTo g t p u
        → AllowsStraight u
    straight_after p u w j v cells e h l i = elim (allowed_or_swaps p u v cells e w j h l) [
      | inl may ↦ may
      | inr sw ↦ (let both = sym sw.diagonal ∙ i in absurd (cc))
    ]

    straight_allowed : (u : Reached) → IsOneOf u all → AllowsStraight u
    straight_allowed = reached_induction g t s all AllowsStraight
        (λ v cells e h l i. leads_can g s v e l)
        (λ p u i w j. straight_after p u (came p i) j) all (λ u i. i) r

    module _ (stops : Stops) (enough : (u : Reached) → IsOneOf u all → PassesNoStop g t stops u)
        (not_goal : (u : Reached) → IsOneOf u all → u.state.cell ≢ t) (least : List Cell)
        (w : IsWalk g s t least) where
      -- what is to be shown
      abbrev Offers : Type 0
      Offers = OffersMore g t stops all (cost_of (s ∷ least))

      -- a good one further on, with so many moves and diagonal ones left at most
      record IsGoodThere (moves count : ℕ) : Type 0 where
        pub by : Reached
        pub member : IsOneOf by all
        pub left : List Cell
        pub good : IsGood g s t by.state.cell by.cost left
        pub fewer : length left ≤ moves
        pub no_more : (cost_of (by.state.cell ∷ left)).b ≤ count

      -- where a good one goes on to is another, or it is offered
      there_good : (x : Cell) (c : Cost) (left : List Cell) → IsGood g s t x c left → IsReachedAt all x c
          → IsGoodThere (length left) (cost_of (x ∷ left)).b
      there_good x c left h a =
          let same = ap (λ (y : Cell). (cost_of (y ∷ left)).b) a.cell in
          record {
            by = a.by;
            member = a.member;
            left = left;
            good = good_at g s t x a.by.state.cell c a.by.cost left a.cell (record { is = a.no_more }) h;
            fewer = omega arith;
            no_more = omega arith;
          }

      hopped : (u x : Reached) (left : List Cell) → IsOneOf u all → (j : HopsTo g t u x)
          → stops u j.dir j.moves ≡ true → IsGood g s t x.state.cell x.cost left
          → Offers ⊎ IsGoodThere (length left) (cost_of (x.state.cell ∷ left)).b
      hopped u x left m j k h = elim (reached_or_not all x.state.cell x.cost) [
        | inl a ↦ inr (there_good x.state.cell x.cost left h a)
        | inr n ↦ inl (record {
          by = u;
          member = m;
          offered = x;
          hops = j;
          stops_there = k;
          fresh = n;
          cells = left;
          walk = h.rule.walk;
          no_more = h.least least w;
        })
      ]

      further_on : (moves count others number : ℕ) → moves ≤ others → count ≤ number
          → Offers ⊎ IsGoodThere moves count → Offers ⊎ IsGoodThere others number
      further_on moves count others number i j o = elim o [
        | inl a ↦ inl a
        | inr a ↦ inr (record {
          by = a.by;
          member = a.member;
          left = a.left;
          good = a.good;
          fewer = (let few = a.fewer in omega arith);
          no_more = (let few = a.no_more in omega arith);
        })
      ]

      -- so far along an allowed next move, before the first stop or to it
      along : (u : Reached) (v : Cell) (cells : List Cell) (d : Dir) (more : ℕ) → IsOneOf u all
          → IsGood g s t u.state.cell u.cost (v ∷ cells)
          → IsAllowedMove g u.state.arrival u.state.cell v d
          → NoneBelow (StopsAfter g t u.state.cell d) 1 (1 + more) → stops u d (1 + more) ≡ true
          → IsOnWay turns_are_marked g t u.state.cell d 1 more v cells
          → Offers ⊎ IsGoodThere (length cells) (cost_of (v ∷ cells)).b
      along u v cells d more m h a below k n =
          let l = allowed_leads g u.state.arrival u.state.cell v d a in
          let run = run_walked g d (1 + more) u.state.cell n.cell
          (legal_is g u.state.cell v l.legal).source n.reached in
          let total = leg_total u.cost d more (move_cost u.state.cell v) (cost_of (v ∷ cells))
          (cost_of (n.cell ∷ n.left)) (cost_there d u.state.cell v l.ahead_is) n.priced in
          let x : Reached = record {
            state = record { cell = n.cell; arrival = By d };
            cost = add_costs u.cost (run_cost d (1 + more));
          } in
          let hop : IsHop g t u.state x.state d (1 + more) = record {
            allowed = a.allowed;
            some = omega arith;
            no_stop_before = below;
            reached = n.reached;
            arrives = refl;
          } in
          further_on (length n.left) (cost_of (n.cell ∷ n.left)).b (length cells) (cost_of (v ∷ cells)).b
          n.fewer
          (no_more_left (cost_of (v ∷ cells)) (run_cost d more) (cost_of (n.cell ∷ n.left)) n.priced)
          (hopped u x n.left m (record { dir = d; moves = 1 + more; hop = hop; priced = refl }) k
          (record {
            rule = record {
              walk = record {
                legal = rule_walks g (By d) n.cell n.left run.free n.rule;
                ends = n.ends;
              };
              pruned = rule_started g (By d) n.cell n.left n.rule;
            };
            least = subst (λ (c : Cost). NoneCheaper g s t c) total h.least;
          }))

      -- the moves that it goes on by, where the first stop of the run lies on the walk
      to_a_stop : (u : Reached) (v : Cell) (cells : List Cell) (d : Dir) → IsOneOf u all
          → IsGood g s t u.state.cell u.cost (v ∷ cells)
          → IsAllowedMove g u.state.arrival u.state.cell v d → FollowsRule g (By d) v cells
          → IsNext turns_are_marked g t u.state.cell d 1 v cells
          → Offers ⊎ IsGoodThere (length cells) (cost_of (v ∷ cells)).b
      to_a_stop u v cells d m h a f n =
          let on = enough u m d (1 + n.more) a.allowed n.first in
          let one : 1 + (on.moves - 1) ≡ on.moves = (let some = on.some in omega arith) in
          let below : NoneBelow (StopsAfter g t u.state.cell d) 1 (1 + (on.moves - 1)) =
          λ k low high. n.first.least k low (let up_to = on.up_to in omega arith) in
          along u v cells d (on.moves - 1) m h a below (ap (λ k. stops u d k) one ∙ on.stops_there)
          (on_way turns_are_marked g t u.state.cell d 1 (on.moves - 1) v cells (omega arith)
          (rw (leads_legal g u.state.cell v d (allowed_leads g u.state.arrival u.state.cell v d a)) refl)
          below f h.rule.walk.ends)

      allowed_on : (u : Reached) (v : Cell) (cells : List Cell) → IsOneOf u all
          → (h : IsGood g s t u.state.cell u.cost (v ∷ cells))
          → is_allowed g u.state.cell u.state.arrival h.rule.pruned.0 ≡ true
          → Offers ⊎ IsGoodThere (length cells) (cost_of (v ∷ cells)).b
      allowed_on u v cells m h a =
          let d = h.rule.pruned.0 in
          let l = good_move g s t u.state.cell v u.cost cells h in
          to_a_stop u v cells d m h (record { leads = l.ahead_is; allowed = a }) h.rule.pruned.2
          (next_stop turns_are_marked g t u.state.cell d 1 v cells (omega arith)
          (rw (leads_legal g u.state.cell v d l) refl) (λ k low high i. absurd (omega arith))
          h.rule.pruned.2 h.rule.walk.ends)

      -- shown of those with fewer diagonal moves left than n
      abbrev IsShown : ℕ → Type 0
      IsShown n = (u : Reached) (left : List Cell) → IsOneOf u all → IsGood g s t u.state.cell u.cost left
          → (cost_of (u.state.cell ∷ left)).b < n → Offers

      -- with a diagonal move first, and no more than n diagonal ones
      abbrev IsShownAt : ℕ → Reached → Type 0
      IsShownAt n u = (v : Cell) (cells : List Cell) → IsOneOf u all
          → IsGood g s t u.state.cell u.cost (v ∷ cells) → (move_cost u.state.cell v).b ≡ 1
          → (cost_of (u.state.cell ∷ v ∷ cells)).b < suc n → Offers

      diagonal_allowed : (n : ℕ) → IsShown n → (u : Reached) (v : Cell) (cells : List Cell) → IsOneOf u all
          → (h : IsGood g s t u.state.cell u.cost (v ∷ cells)) → (move_cost u.state.cell v).b ≡ 1
          → (cost_of (u.state.cell ∷ v ∷ cells)).b < suc n
          → is_allowed g u.state.cell u.state.arrival h.rule.pruned.0 ≡ true → Offers
      diagonal_allowed n shown u v cells m h i j a = elim (allowed_on u v cells m h a) [
        | inl o ↦ o
        | inr b ↦ shown b.by b.left b.member b.good (let few = b.no_more in omega arith)
      ]

      diagonal_at_start : (n : ℕ) → IsShown n → IsShownAt n (beginning s)
      diagonal_at_start n shown v cells m h i j = diagonal_allowed n shown (beginning s) v cells m h i j
          (leads_can g s v h.rule.pruned.0 (good_move g s t s v no_cost cells h))

      diagonal_after : (n : ℕ) → IsShown n → (p u : Reached) → IsOneOf p all → IsShownAt n p
          → HopsTo g t p u → IsShownAt n u
      diagonal_after n shown p u k before l v cells m h i j =
          let d = h.rule.pruned.0 in
          let move = good_move g s t u.state.cell v u.cost cells h in
          elim (allowed_or_swaps p u v cells d (came p k) l h move) [
            | inl may ↦ diagonal_allowed n shown u v cells m h i j may
            | inr sw ↦
                let b = back_good p u v cells d (came p k) l h move sw in
                before b.first b.left k b.good b.diagonal (let few = b.no_more in omega arith)
          ]

      diagonal_shown : (n : ℕ) → IsShown n → (u : Reached) → IsOneOf u all → IsShownAt n u
      diagonal_shown n shown = reached_induction g t s all (IsShownAt n) (diagonal_at_start n shown)
          (diagonal_after n shown) all (λ u i. i) r

      -- with any move first, by the number of moves
      next_shown : (n : ℕ) → IsShown n → (most : ℕ) (u : Reached) (left : List Cell) → length left < most
          → IsOneOf u all → IsGood g s t u.state.cell u.cost left
          → (cost_of (u.state.cell ∷ left)).b < suc n → Offers
      next_shown n shown zero u left i m h j = absurd (omega arith)
      next_shown n shown (suc most) u [] i m h j = absurd (not_goal u m h.rule.walk.ends)
      next_shown n shown (suc most) u (v ∷ cells) i m h j =
          let d = h.rule.pruned.0 in
          let l = good_move g s t u.state.cell v u.cost cells h in
          by_parity d
          (λ k. diagonal_shown n shown u m v cells m h
          (ap (λ (c : Cost). c.b) (cost_there d u.state.cell v l.ahead_is) ∙ one_diagonal d k) j)
          (λ k. elim (allowed_on u v cells m h (straight_allowed u m v cells d h l k)) [
            | inl o ↦ o
            | inr b ↦ next_shown n shown most b.by b.left (let few = b.fewer in omega arith) b.member b.good
                (let few = b.no_more in omega arith)
          ])

      all_shown : (n : ℕ) → IsShown n
      all_shown zero u left m h j = absurd (omega arith)
      all_shown (suc n) u left m h j =
          next_shown n (all_shown n) (suc (length left)) u left (omega arith) m h j

-- one state for each cell is enough, from what dropped turns come to
pub one_state_from : DroppedTurnsAreSwapped → DiagonalsGoFirst → OneStateSuffices
one_state_from dropped diagonals g s t stops all cells f r enough not_goal least =
    let c = canonical_from turns_are_replaced g s t cells least.walk in
    all_shown dropped diagonals g s t all f r stops enough not_goal cells least.walk
    (suc (cost_of (s ∷ c.others)).b) (beginning s) c.others (begin_member g t s all r)
    (record {
      rule = c.canonical;
      least = λ others o. (Most-then (Most-same (add_costs-no_cost_left (cost_of (s ∷ c.others))))
          (Most-then (record { is = c.no_more }) (record { is = least.least others o }))).is;
    }) (omega arith)
