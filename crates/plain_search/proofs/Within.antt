-- The least cost by walks alone: walks of at most so many moves.
use Rattle.std.proofs.Common.{◌≡◌, ℕ, zero, suc, ◌*◌, ◌<◌, ◌≤◌, arith, refl, ap, ◌∙◌, subst}
use Rattle.std.proofs.Common.{Bool, true, false, List, [], ◌∷◌, length, map}
use Rattle.std.specs.Prelude.{Option, Some, None, if◌then◌else◌}
use Rattle.std.specs.List.{fold}
use Rattle.std.specs.Option.{option_and_then, option_map}
use Rattle.root2_cost.specs.declared.Cost.{Cost}
use Rattle.root2_cost.specs.Order.{IsAtMost, is_less}
use Rattle.root2_cost.specs.Sums.{add_costs, no_cost}
use Rattle.root2_cost.proofs.AtMost.{IsAtMost-antisymmetric, IsAtMost-trans, less_at_most}
use Rattle.root2_cost.proofs.Sums.{IsAtMost-add_left, no_cost_at_most}
use Rattle.grid_moves.specs.declared.Cell.{Cell}
use Rattle.grid_moves.specs.declared.Dir.{Dir}
use Rattle.grid_moves.specs.Grid.{GridData, is_free}
use Rattle.grid_moves.specs.Move.{all_dirs, dir_cost, is_legal, is_same, legal_ahead}
use Rattle.grid_moves.specs.Walk.{IsWalk, cost_of, is_walk}
use Rattle.grid_moves.proofs.Ahead.{legal_ahead-ahead, legal_ahead-free, legal_ahead-is, legal_ahead-of}
use Rattle.grid_moves.proofs.Costs.{cost_there}
use Rattle.grid_moves.proofs.Dirs.{In, first, in_all, later}
use Rattle.grid_moves.proofs.Legal.{and_both, is_same-cell, is_same-itself}
use Rattle.grid_moves.proofs.Short.{least_steps}
use Rattle.cost_waves.specs.Begin.{IsCostTo}
use Rattle.plain_search.specs.Costs.{cost_over, least_cost, least_within, lesser}

-- a cost, where there is one, has the property
abbrev Each : (Cost → Type 0) → Option Cost → Type 0
Each P None = Unit {0}
Each P (Some p) = P p

-- there is a cost, and it is at most this one
abbrev IsWithin : Cost → Option Cost → Type 0
IsWithin c None = ⊥
IsWithin c (Some p) = IsAtMost p c

-- the lesser cost is one of the two
lesser-each : (P : Cost → Type 0) (p q : Option Cost) → Each P p → Each P q → Each P (lesser p q)
lesser-each P None q here there = there
lesser-each P (Some p) None here there = here
lesser-each P (Some p) (Some q) here there = by_test (is_less q p)
  where
    by_test : (less : Bool) → Each P (if less then Some q else Some p)
    by_test true = there
    by_test false = here

-- and at most each of them
lesser-left : (c : Cost) (p q : Option Cost) → IsWithin c p → IsWithin c (lesser p q)
lesser-left c None q h = absurd h
lesser-left c (Some p) None h = h
lesser-left c (Some p) (Some q) h = by_test (is_less q p) refl
  where
    by_test : (less : Bool) → is_less q p ≡ less → IsWithin c (if less then Some q else Some p)
    by_test true e = IsAtMost-trans q p c (less_at_most q p e) h
    by_test false e = h

lesser-right : (c : Cost) (p q : Option Cost) → IsWithin c q → IsWithin c (lesser p q)
lesser-right c None q h = h
lesser-right c (Some p) None h = absurd h
lesser-right c (Some p) (Some q) h = by_test (is_less q p) refl
  where
    by_test : (less : Bool) → is_less q p ≡ less → IsWithin c (if less then Some q else Some p)
    by_test true e = h
    by_test false e = IsAtMost-trans p q c e h

-- so are those of a list of directions
module _ (over : Dir → Option Cost) where
  all-each : (P : Cost → Type 0) → ((d : Dir) → Each P (over d)) → (dirs : List Dir) (o : Option Cost)
      → Each P o → Each P (fold lesser o (map over dirs))
  all-each P each [] o h = h
  all-each P each (d ∷ dirs) o h =
      all-each P each dirs (lesser o (over d)) (lesser-each P o (over d) h (each d))

  all-kept : (c : Cost) (dirs : List Dir) (o : Option Cost) → IsWithin c o
      → IsWithin c (fold lesser o (map over dirs))
  all-kept c [] o h = h
  all-kept c (d ∷ dirs) o h = all-kept c dirs (lesser o (over d)) (lesser-left c o (over d) h)

  all-within : (c : Cost) (d : Dir) → IsWithin c (over d) → (dirs : List Dir) (o : Option Cost) → In d dirs
      → IsWithin c (fold lesser o (map over dirs))
  all-within c d h [] o m = elim m [ ]
  all-within c d h (e ∷ dirs) o (first z) = all-kept c dirs (lesser o (over e)) (lesser-right c o (over e) h)
  all-within c d h (e ∷ dirs) o (later z w m) = all-within c d h dirs (lesser o (over e)) m

-- a walk from s to t at this cost
record HasCost (g : GridData) (s t : Cell) (cost : Cost) : Type 0 where
  cells : List Cell
  walk : IsWalk g s t cells
  priced : cost_of (s ∷ cells) ≡ cost

-- the cost over a legal move is that of a walk
module _ (g : GridData) (s t : Cell) (from : Cell → Option Cost) where
  has_over : ((v : Cell) → is_free g v ≡ true → Each (HasCost g v t) (from v)) → (d : Dir)
      → Each (HasCost g s t) (cost_over g s from d)
  has_over has d = by_ahead (legal_ahead g s d) refl
    where
      by_cost : (v : Cell) → legal_ahead g s d ≡ Some v → (o : Option Cost) → Each (HasCost g v t) o
          → Each (HasCost g s t) (option_map (add_costs (dir_cost d)) o)
      by_cost v e None h = tt
      by_cost v e (Some c) h = record {
        cells = v ∷ h.cells;
        walk = record { legal = rw (legal_ahead-is g s v d e, h.walk.legal) refl; ends = h.walk.ends };
        priced = rw (cost_there d s v (legal_ahead-ahead g s v d e), h.priced) refl;
      }

      by_ahead : (o : Option Cell) → legal_ahead g s d ≡ o → Each (HasCost g s t)
          (option_and_then (λ (v : Cell). option_map (add_costs (dir_cost d)) (from v)) o)
      by_ahead None e = tt
      by_ahead (Some v) e = by_cost v e (from v) (has v (legal_ahead-free g s v d e))

  -- and at most that of each walk that begins with it, if it is from its end on
  within_over : (v : Cell) (cells : List Cell) (d : Dir) → legal_ahead g s d ≡ Some v
      → IsWithin (cost_of (v ∷ cells)) (from v) → IsWithin (cost_of (s ∷ v ∷ cells)) (cost_over g s from d)
  within_over v cells d e h = rw e (by_cost (from v) h)
    where
      by_cost : (o : Option Cost) → IsWithin (cost_of (v ∷ cells)) o
          → IsWithin (cost_of (s ∷ v ∷ cells)) (option_map (add_costs (dir_cost d)) o)
      by_cost None h = absurd h
      by_cost (Some c) h = rw (cost_there d s v (legal_ahead-ahead g s v d e))
          (IsAtMost-add_left (dir_cost d) c (cost_of (v ∷ cells)) h)

-- where s is t there is the walk of no move
stays : (g : GridData) (s t : Cell) → is_free g s ≡ true → (o : Option Cost) → Each (HasCost g s t) o
    → (b : Bool) → is_same s t ≡ b → Each (HasCost g s t) (if b then Some no_cost else o)
stays g s t free o h true e =
    record { cells = []; walk = record { legal = free; ends = is_same-cell s t e }; priced = refl }
stays g s t free o h false e = h

-- so there is a walk at the cost
has_cost : (n : ℕ) (g : GridData) (s t : Cell) → is_free g s ≡ true
    → Each (HasCost g s t) (least_within n g s t)
has_cost zero g s t free = stays g s t free None tt (is_same s t) refl
has_cost (suc n) g s t free =
    let from : Cell → Option Cost = λ v. least_within n g v t in
    stays g s t free (fold lesser None (map (cost_over g s from) all_dirs))
    (all-each (cost_over g s from) (HasCost g s t)
    (has_over g s t from (λ v ahead. has_cost n g v t ahead)) all_dirs None tt) (is_same s t) refl

-- no cost undercuts that of the walk of no move
none_less : (c : Cost) (o : Option Cost) → IsWithin c o → (b : Bool)
    → IsWithin c (if b then Some no_cost else o)
none_less c o h true = no_cost_at_most c
none_less c o h false = h

-- and no walk of at most so many moves costs less
is_within : (n : ℕ) (g : GridData) (s t : Cell) (cells : List Cell) → IsWalk g s t cells → length cells ≤ n
    → IsWithin (cost_of (s ∷ cells)) (least_within n g s t)
is_within zero g s t [] w few = rw (← w.ends, is_same-itself s) (no_cost_at_most no_cost)
is_within (suc n) g s t [] w few = rw (← w.ends, is_same-itself s) (no_cost_at_most no_cost)
is_within zero g s t (v ∷ cells) w few = absurd (omega arith)
is_within (suc n) g s t (v ∷ cells) w few =
    let from : Cell → Option Cost = λ v. least_within n g v t in
    let parts = and_both (is_legal g s v) (is_walk g (v ∷ cells)) w.legal in
    let a = legal_ahead-of g s v parts.0 in
    let rest = is_within n g v t cells (record { legal = parts.1; ends = w.ends }) (omega arith) in
    none_less (cost_of (s ∷ v ∷ cells)) (fold lesser None (map (cost_over g s from) all_dirs))
    (all-within (cost_over g s from) (cost_of (s ∷ v ∷ cells)) a.0
    (within_over g s t from v cells a.0 a.1 rest) all_dirs None (in_all a.0)) (is_same s t)

-- a least walk has no more moves than there are cells, so its cost is found
pub only_cost : (g : GridData) (s t : Cell) (cost : Option Cost) → is_free g s ≡ true → IsCostTo g s t cost
    → least_cost g s t ≡ cost
unfolding least_cost
only_cost g s t None free none = by_cost (least_cost g s t) (has_cost (g.height * g.width) g s t free)
  where
    by_cost : (o : Option Cost) → Each (HasCost g s t) o → o ≡ None
    by_cost None h = refl
    by_cost (Some c) h = absurd (none h.cells h.walk)
only_cost g s t (Some cost) free l =
    let fewer : length l.cells < g.height * g.width = least_steps g s t l.cells l.least in
    by_cost (least_cost g s t) (has_cost (g.height * g.width) g s t free)
    (is_within (g.height * g.width) g s t l.cells l.least.walk (omega arith))
  where
    by_cost : (o : Option Cost) → Each (HasCost g s t) o → IsWithin (cost_of (s ∷ l.cells)) o → o ≡ Some cost
    by_cost None h most = absurd most
    by_cost (Some c) h most =
        let least : IsAtMost (cost_of (s ∷ l.cells)) c =
        subst (λ (p : Cost). IsAtMost (cost_of (s ∷ l.cells)) p) h.priced (l.least.least h.cells h.walk) in
        ap (λ (p : Cost). Some p)
        (IsAtMost-antisymmetric c (cost_of (s ∷ l.cells)) most least ∙ l.priced)
