-- Taken states are free cells that can be come to as they were.
use Rattle.std.proofs.Common.{◌≡◌, ℕ, zero, suc, ◌≤◌, refl, sym, subst, true, List, [], ◌∷◌, arith}
use Rattle.std.specs.Prelude.{Option, Some, None, option_and_then}
use Rattle.grid_moves.specs.declared.Cell.{Cell}
use Rattle.grid_moves.specs.declared.Dir.{Dir}
use Rattle.grid_moves.specs.Grid.{GridData, is_free}
use Rattle.grid_moves.specs.Move.{legal_ahead}
use Rattle.pruning.specs.Allowed.{come_to}
use Rattle.pruning.specs.Marked.{run_end}
use Rattle.pruning.specs.Source.{CanArrive}
use Rattle.pruning.proofs.Running.{run_walked}
use Rattle.search_run.specs.Run.{Taken, IsIn, here, there, IsRun}
use Rattle.search_run.proofs.Leastness.{least_offer-from}
use Rattle.best_first.specs.declared.state.Layout.{Layout}
use Rattle.best_first.specs.declared.state.State.{State}
use Rattle.best_first.specs.State.{start_at, arrived_in}
use Rattle.search_core.specs.Jumps.{jump_rule}
use Rattle.search_core.proofs.Links.{step_is, allowed_free, start_arrived}

-- the last move of a run
last_move : (g : GridData) (d : Dir) (k : ℕ) (x v : Cell) → 1 ≤ k → run_end g d k x ≡ Some v
    → (u : Cell) × (legal_ahead g u d ≡ Some v)
last_move g d zero x v h r = absurd (omega arith)
last_move g d (suc k) x v h r = by_cell (legal_ahead g x d) refl r (λ y i. last_move g d k y v i)
  where
    by_moves : (n : ℕ) (y : Cell) → legal_ahead g x d ≡ Some y → run_end g d n y ≡ Some v
        → (1 ≤ n → run_end g d n y ≡ Some v → (u : Cell) × (legal_ahead g u d ≡ Some v))
        → (u : Cell) × (legal_ahead g u d ≡ Some v)
    by_moves zero y l r next = (x, subst (λ (o : Option Cell). legal_ahead g x d ≡ o) r l)
    by_moves (suc n) y l r next = next (omega arith) r

    by_cell : (o : Option Cell) → legal_ahead g x d ≡ o → option_and_then (λ y. run_end g d k y) o ≡ Some v
        → ((y : Cell) → 1 ≤ k → run_end g d k y ≡ Some v → (u : Cell) × (legal_ahead g u d ≡ Some v))
        → (u : Cell) × (legal_ahead g u d ≡ Some v)
    by_cell None l r next = absurd (cc)
    by_cell (Some y) l r next = by_moves k y l r (next y)

-- the state's cell is free, and it can be come to so
pub record HasArrived (g : GridData) (s : State) : Type 0 where
  pub free : is_free g s.cell ≡ true
  pub arrival : CanArrive g s.cell (come_to s.arrival)

-- a taken state, as it was come to
abbrev pub shown : Layout → Taken State → State
shown layout u = arrived_in layout u.parent u.state

pub run_arrived : (layout : Layout) (g : GridData) (s goal : Cell) → is_free g s ≡ true
    → (run : List (Taken State)) → IsRun (jump_rule layout g goal) (start_at s) run → (u : Taken State)
    → IsIn u run → HasArrived g (shown layout u)
run_arrived layout g s goal free [] is u m = absurd is
run_arrived layout g s goal free (x ∷ []) is u (there z e m) = elim m [ ]
run_arrived layout g s goal free (x ∷ []) is u (here e) =
    subst (λ (w : Taken State). HasArrived g (shown layout w)) (sym is)
    (subst (λ (w : State). HasArrived g w) (sym (start_arrived layout s))
    (record { free = free; arrival = tt }))
run_arrived layout g s goal free (x ∷ y ∷ earlier) is u (there z e m) =
    run_arrived layout g s goal free (y ∷ earlier) is.0 u m
run_arrived layout g s goal free (x ∷ y ∷ earlier) is u (here e) =
    let from = least_offer-from (jump_rule layout g goal) (y ∷ earlier) x.state
    (record { cost = x.cost; from = x.parent }) is.2.offered in
    let l = (step_is layout g goal from.by.parent from.by.state x.state from.offered.step
    from.offered.linked).jump in
    record {
      free = (run_walked g l.dir l.moves from.by.state.cell x.state.cell
          (allowed_free g (shown layout from.by) l.dir l.allowed) l.reached).free;
      arrival = subst (λ (p : State). CanArrive g x.state.cell
          (come_to (arrived_in layout p x.state).arrival))
          (sym from.offered.source)
          (subst (λ (a : Option Dir). CanArrive g x.state.cell (come_to a)) (sym l.arrives)
          (last_move g l.dir l.moves from.by.state.cell x.state.cell l.first.in_range l.reached));
    }
