-- What a dropped turn comes to where no walk is cheaper: the diagonal move goes first, move by move to the
-- beginning of the run.
use Rattle.std.proofs.Common.{◌≡◌, ℕ, zero, suc, ◌≤◌, arith, true, false, refl, ap, sym, ◌∙◌, subst}
use Rattle.std.proofs.Common.{List, [], ◌∷◌, ◌++◌, inl, inr}
use Rattle.std.specs.Prelude.{Option, Some, None, option_and_then}
use Rattle.root2_cost.specs.declared.Cost.{Cost}
use Rattle.root2_cost.specs.Order.{IsAtMost}
use Rattle.root2_cost.specs.Sums.{add_costs}
use Rattle.root2_cost.proofs.AtMost.{IsAtMost-not_more}
use Rattle.root2_cost.proofs.Less.{same_cost}
use Rattle.root2_cost.proofs.Sums.{IsAtMost-cancel_left, IsAtMost-cancel_right, add_costs-no_cost_right}
use Rattle.root2_cost.proofs.Sums.{add_costs-assoc}
use Rattle.grid_moves.specs.declared.Cell.{Cell}
use Rattle.grid_moves.specs.declared.Dir.{Dir}
use Rattle.grid_moves.specs.Grid.{GridData, is_free}
use Rattle.grid_moves.specs.Least.{NoneBelow}
use Rattle.grid_moves.specs.Move.{is_legal, legal_ahead, dir_cost}
use Rattle.grid_moves.specs.Walk.{IsWalk, is_walk, cost_of, last_of}
use Rattle.grid_moves.proofs.Costs.{cost_there}
use Rattle.grid_moves.proofs.Legal.{and_both, legal_is}
use Rattle.grid_moves.proofs.Walks.{walk-joined, last-joined, cost-joined, Goes}
use Rattle.pruning.specs.declared.Arrival.TheVariants.{Start, By}
use Rattle.pruning.specs.Turns.{is_diagonal}
use Rattle.pruning.specs.Allowed.{is_allowed}
use Rattle.pruning.specs.Marked.{run_end, IsMarked}
use Rattle.pruning.specs.Stop.{StopsAfter, marked}
use Rattle.pruning.specs.Chain.{run_cost}
use Rattle.pruning.specs.Canonical.{FollowsRule}
use Rattle.pruning.specs.Facts.{IsExplained, same, component, turns}
use Rattle.pruning.specs.Swap.{NoneCheaper, IsSwapped, DroppedTurnsAreSwapped, DiagonalsGoFirst}
use Rattle.pruning.proofs.Table.{by_test}
use Rattle.pruning.proofs.Bridging.{Leads, legal_leads, leads_legal, leads_can, allowed_leads, one_of}
use Rattle.pruning.proofs.Replacing.{GoesFirst, replaced}
use Rattle.pruning.proofs.Explaining.{turns_are_marked}
use Rattle.pruning.proofs.Runs.{run_end-next}
use Rattle.pruning.proofs.Chaining.{run_cost-next}
use Rattle.pruning.proofs.Running.{run_walked}

module _ (g : GridData) where
  -- walks one after the other
  joined : (s v t : Cell) (cells more : List Cell) (a b : Cost) → Goes g s v cells a → Goes g v t more b
      → Goes g s t (cells ++ more) (add_costs a b)
  joined s v t cells more a b w m = record {
    legal = walk-joined g s cells more w.legal
        (subst (λ (c : Cell). is_walk g (c ∷ more) ≡ true) (sym w.ends) m.legal);
    ends = last-joined s cells more ∙ rw w.ends m.ends;
    priced = cost-joined s cells more ∙ rw (w.ends, w.priced, m.priced) refl;
  }

  -- a walk, at its own cost
  goes : (s t : Cell) (cells : List Cell) → IsWalk g s t cells → Goes g s t cells (cost_of (s ∷ cells))
  goes s t cells w = record { legal = w.legal; ends = w.ends; priced = refl }

  -- one move
  goes_one : (s t : Cell) (d : Dir) → Leads g s t d → Goes g s t (t ∷ []) (dir_cost d)
  goes_one s t d l = record {
    legal = rw (l.legal, (legal_is g s t l.legal).target) refl;
    ends = refl;
    priced = rw (cost_there d s t l.ahead_is) (add_costs-no_cost_right (dir_cost d));
  }

  -- where no walk is cheaper than one of two parts, none is cheaper than the second part
  none_behind : (s v t : Cell) (cells : List Cell) (a c : Cost) → Goes g s v cells a
      → NoneCheaper g s t (add_costs a c) → NoneCheaper g v t c
  none_behind s v t cells a c w n others o =
      let j = joined s v t cells others a (cost_of (v ∷ others)) w (goes v t others o) in
      IsAtMost-cancel_left a c (cost_of (v ∷ others))
      (subst (λ (p : Cost). IsAtMost (add_costs a c) p) j.priced
      (n (cells ++ others) (record { legal = j.legal; ends = j.ends })))

  -- nor than the first
  none_before : (s v t : Cell) (cells : List Cell) (c b : Cost) → Goes g v t cells b
      → NoneCheaper g s t (add_costs c b) → NoneCheaper g s v c
  none_before s v t cells c b w n others o =
      let j = joined s v t others cells (cost_of (s ∷ others)) b (goes s v others o) w in
      IsAtMost-cancel_right b c (cost_of (s ∷ others))
      (subst (λ (p : Cost). IsAtMost (add_costs c b) p) j.priced
      (n (others ++ cells) (record { legal = j.legal; ends = j.ends })))

  -- a turn that is not allowed, alone: a cheaper walk is none
  turn_swapped : (u v w : Cell) (d e : Dir) → Leads g u v d → Leads g v w e
      → is_allowed g v (By d) e ≡ false → NoneCheaper g u w (add_costs (dir_cost d) (dir_cost e))
      → GoesFirst g u w d e
  turn_swapped u v w d e l m n none =
      let pair = joined u v w (v ∷ []) (w ∷ []) (dir_cost d) (dir_cost e)
      (goes_one u v d l) (goes_one v w e m)
      in
      elim (replaced g u v w d l e m n) [
        | inl c ↦ absurd (IsAtMost-not_more (cost_of (u ∷ v ∷ w ∷ [])) (cost_of (u ∷ c.instead))
            (subst (λ (p : Cost). IsAtMost p (cost_of (u ∷ c.instead))) (sym pair.priced)
            (none c.instead c.walk)) c.less)
        | inr f ↦ f
      ]

-- after a straight move, an allowed diagonal is explained by a mark alone
marked_there : (g : GridData) (x : Cell) (d e : Dir) → is_diagonal d ≡ false → is_diagonal e ≡ true
    → IsExplained g x d e → IsMarked g x d
marked_there g x d _ h k same = absurd (cc)
marked_there g x d _ h k (component j s) = absurd (cc)
marked_there g x d _ h k (turns m _) = m

-- the last move of a run
run_last : (g : GridData) (d : Dir) (k : ℕ) (u v : Cell) → run_end g d (suc k) u ≡ Some v
    → (x : Cell) × (run_end g d k u ≡ Some x) × Leads g x v d
run_last g d zero u v h = by_cell (legal_ahead g u d) refl h
  where
    by_cell : (o : Option Cell) → legal_ahead g u d ≡ o
        → option_and_then (λ y. run_end g d zero y) o ≡ Some v
        → (x : Cell) × (run_end g d zero u ≡ Some x) × Leads g x v d
    by_cell None e h = absurd (cc)
    by_cell (Some y) e h = (u, refl, legal_leads g u v d (e ∙ h))
run_last g d (suc k) u v h = by_cell (legal_ahead g u d) refl (λ y. run_last g d k y v) h
  where
    by_cell : (o : Option Cell) → legal_ahead g u d ≡ o
        → ((y : Cell) → run_end g d (suc k) y ≡ Some v
        → (x : Cell) × (run_end g d k y ≡ Some x) × Leads g x v d)
        → option_and_then (λ y. run_end g d (suc k) y) o ≡ Some v
        → (x : Cell) × (run_end g d (suc k) u ≡ Some x) × Leads g x v d
    by_cell None e next h = absurd (cc)
    by_cell (Some y) e next h = let r = next y h in (r.0, rw e r.1, r.2)

-- a run of a move or more begins on a free cell
pub run_begins : (g : GridData) (d : Dir) (k : ℕ) (u v : Cell) → run_end g d (suc k) u ≡ Some v
    → is_free g u ≡ true
run_begins g d k u v h = by_cell (legal_ahead g u d) refl h
  where
    by_cell : (o : Option Cell) → legal_ahead g u d ≡ o
        → option_and_then (λ y. run_end g d k y) o ≡ Some v → is_free g u ≡ true
    by_cell None e h = absurd (cc)
    by_cell (Some y) e h = (legal_is g u y (legal_leads g u y d e).legal).source

-- the costs of a run and its last move, one by one
last_split : (r p q : Cost) → add_costs (add_costs p r) q ≡ add_costs r (add_costs p q)
last_split r p q = same_cost _ _ (omega arith) (omega arith)

last_behind : (r p q : Cost) → add_costs r (add_costs p q) ≡ add_costs (add_costs r q) p
last_behind r p q = same_cost _ _ (omega arith) (omega arith)

module _ (g : GridData) (goal : Cell) (d e : Dir) (u : Cell) (free : is_free g u ≡ true) where
  -- what k moves and a last one cost, with one in e behind them
  cost_split : (k : ℕ) → add_costs (run_cost d (suc k)) (dir_cost e)
      ≡ add_costs (run_cost d k) (add_costs (dir_cost d) (dir_cost e))
  cost_split k = ap (λ (c : Cost). add_costs c (dir_cost e)) (run_cost-next d k)
      ∙ last_split (run_cost d k) (dir_cost d) (dir_cost e)

  -- at the cell before the last, which is no stop, e is not allowed either
  not_before : (k : ℕ) (x : Cell) → run_end g d (suc k) u ≡ Some x
      → NoneBelow (StopsAfter g goal u d) 1 (suc (suc k)) → is_diagonal d ≡ false → is_diagonal e ≡ true
      → is_allowed g x (By d) e ≡ false
  not_before k x r below h j = by_test (is_allowed g x (By d) e)
      (λ a. absurd (below (suc k) (omega arith) (omega arith) (record {
        cell = x;
        reached = r;
        stops = marked (marked_there g x d e h j (turns_are_marked g x d e a));
      })))
      (λ n. n)

  -- the last move of a run, from x, and the one in e behind it
  last_swapped : (k : ℕ) (x v w : Cell) → run_end g d k u ≡ Some x → Leads g x v d → Leads g v w e
      → is_allowed g v (By d) e ≡ false
      → NoneCheaper g u w (add_costs (run_cost d k) (add_costs (dir_cost d) (dir_cost e)))
      → GoesFirst g x w d e
  last_swapped k x v w r l m n none =
      let run = run_walked g d k u x free r in
      turn_swapped g x v w d e l m n
      (none_behind g u x w run.cells (run_cost d k) (add_costs (dir_cost d) (dir_cost e))
      (record { legal = run.walks; ends = run.ends; priced = run.priced }) none)

  -- none is cheaper than the run with e behind it, to where the last move in d begins
  none_there : (k : ℕ) (c w : Cell) → Leads g c w d
      → NoneCheaper g u w (add_costs (run_cost d (suc k)) (add_costs (dir_cost d) (dir_cost e)))
      → NoneCheaper g u c (add_costs (run_cost d k) (add_costs (dir_cost d) (dir_cost e)))
  none_there k c w l none = subst (λ (p : Cost). NoneCheaper g u c p) (cost_split k)
      (none_before g u c w (w ∷ []) (add_costs (run_cost d (suc k)) (dir_cost e)) (dir_cost d)
      (goes_one g c w d l)
      (subst (λ (p : Cost). NoneCheaper g u w p)
      (last_behind (run_cost d (suc k)) (dir_cost d) (dir_cost e)) none))

  -- a run to x, a last move to v, and one in e to w
  run_swapped : (k : ℕ) (x v w : Cell) → run_end g d k u ≡ Some x → Leads g x v d → Leads g v w e
      → is_allowed g v (By d) e ≡ false → NoneBelow (StopsAfter g goal u d) 1 (suc k)
      → NoneCheaper g u w (add_costs (run_cost d k) (add_costs (dir_cost d) (dir_cost e)))
      → IsSwapped g u w d e (suc k)
  run_swapped zero x v w r l m n below none =
      let one = last_swapped zero x v w r l m n none in
      record {
        straight = one.straight;
        diagonal = one.diagonal;
        by = one.by;
        first = leads_legal g u one.by e
            (subst (λ (c : Cell). Leads g c one.by e) (sym (one_of u x r)) one.first);
        run = rw (leads_legal g one.by w d one.second) refl;
      }
  run_swapped (suc k) x v w r l m n below none =
      let one = last_swapped (suc k) x v w r l m n none in
      let y = run_last g d k u x r in
      let rest = run_swapped k y.0 x one.by y.1 y.2 one.first
      (not_before k x r below one.straight one.diagonal) (λ j i h. below j i (omega arith))
      (none_there k one.by w one.second none) in
      record {
        straight = one.straight;
        diagonal = one.diagonal;
        by = rest.by;
        first = rest.first;
        run = run_end-next g d (suc k) rest.by one.by w rest.run (leads_legal g one.by w d one.second);
      }

pub dropped_turns_are_swapped : DroppedTurnsAreSwapped
dropped_turns_are_swapped g goal u v w d e k some below r m n none = by_moves k some below r none
  where
    by_moves : (k : ℕ) → 1 ≤ k → NoneBelow (StopsAfter g goal u d) 1 k → run_end g d k u ≡ Some v
        → NoneCheaper g u w (add_costs (run_cost d k) (dir_cost e)) → IsSwapped g u w d e k
    by_moves zero i below r none = absurd (omega arith)
    by_moves (suc k) i below r none =
        let f = run_begins g d k u v r in
        let x = run_last g d k u v r in
        run_swapped g goal d e u f k x.0 v w x.1 x.2 (legal_leads g v w e m) n below
        (subst (λ (p : Cost). NoneCheaper g u w p) (cost_split g goal d e u f k) none)

module _ (g : GridData) (u v t : Cell) (e : Dir) (l : Leads g u v e) (h : is_diagonal e ≡ true) where
  -- from v on what follows a diagonal move keeps the rule behind it
  behind_diagonal : (cells : List Cell) → is_walk g (v ∷ cells) ≡ true → last_of v cells ≡ t
      → FollowsRule g Start v cells → NoneCheaper g u t (cost_of (u ∷ v ∷ cells))
      → FollowsRule g (By e) v cells
  behind_diagonal [] w s f none = tt
  behind_diagonal (x ∷ cells) w s (d, m, f) none =
      let step = allowed_leads g Start v x d m in
      let rest = (and_both (is_legal g v x) (is_walk g (x ∷ cells)) w).1 in
      let costs : cost_of (u ∷ v ∷ x ∷ cells)
      ≡ add_costs (add_costs (dir_cost e) (dir_cost d)) (cost_of (x ∷ cells)) =
      rw (cost_there e u v l.ahead_is, cost_there d v x step.ahead_is)
      (sym (add_costs-assoc (dir_cost e) (dir_cost d) (cost_of (x ∷ cells)))) in
      by_test (is_allowed g v (By e) d)
      (λ a. (d, record { leads = m.leads; allowed = a }, f))
      (λ n. absurd (let first = turn_swapped g u v x e d l step n
      (none_before g u x t cells (add_costs (dir_cost e) (dir_cost d)) (cost_of (x ∷ cells))
      (goes g x t cells (record { legal = rest; ends = s }))
      (subst (λ (p : Cost). NoneCheaper g u t p) costs none)) in
      let straight = first.straight in
      cc))

pub diagonals_go_first : DiagonalsGoFirst
diagonals_go_first g u v t e cells q h c none =
    let l = legal_leads g u v e q in
    record {
      walk = record { legal = rw (l.legal, c.walk.legal) refl; ends = c.walk.ends };
      pruned = (
        e,
        record { leads = l.ahead_is; allowed = leads_can g u v e l },
        behind_diagonal g u v t e l h cells c.walk.legal c.walk.ends c.pruned none,
      );
    }
