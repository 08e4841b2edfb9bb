-- Runs cell by cell: what is left of a run decides whether it is legal, and what it costs.
use Rattle.std.proofs.Common.{◌≡◌, ℕ, ◌+◌, ◌-◌, ◌<◌, ◌≤◌, arith, Bool, true, false, ◌&&◌, ◌⊎◌, refl, ◌∷◌}
use Rattle.std.specs.Prelude.{nat_le, Some, None, if◌then◌else◌}
use Rattle.std.proofs.lemmas.Bool.Decides.{nat_tests}
use Rattle.root2_cost.specs.declared.Cost.{Cost}
use Rattle.root2_cost.specs.Sums.{add_costs}
use Rattle.root2_cost.proofs.Sums.{add_costs-assoc, add_costs-no_cost_right}
use Rattle.grid_moves.specs.declared.Cell.{Cell}
use Rattle.grid_moves.specs.Grid.{GridData, is_free}
use Rattle.grid_moves.specs.Move.{is_legal, move_cost}
use Rattle.grid_moves.specs.Points.{steps_between, step_toward, segment}
use Rattle.grid_moves.specs.Walk.{is_walk, cost_of}
use Rattle.grid_moves.proofs.Short.{move_counts}
use Rattle.path_points.proofs.Filling.{segment_next, step_nearer}

-- after a legal move the rest decides
pub run_on :
    (g : GridData) (n i : ℕ) (u next v : Cell) → i < n → next ≡ step_toward u v
    → is_legal g u next ≡ true
    → is_walk g (next ∷ segment (n - (i + 1)) next v) ≡ is_walk g (u ∷ segment (n - i) u v)
run_on g n i u next v h e l = rw (segment_next n i u next v h e, l) refl

-- a move that is not legal decides
pub run_off :
    (g : GridData) (n i : ℕ) (u next v : Cell) → i < n → next ≡ step_toward u v
    → is_legal g u next ≡ false → is_walk g (u ∷ segment (n - i) u v) ≡ false
run_off g n i u next v h e l = rw (segment_next n i u next v h e, l) refl

-- one step fewer is left
pub run_left :
    (n i : ℕ) (u next v : Cell) → next ≡ step_toward u v → steps_between u v ≡ n - i
    → steps_between next v ≡ n - (i + 1)
run_left n i u next v h1 h2 = grind (arith, nat_tests, step_nearer)

-- a move is paid for
pub run_paid :
    (cost paid : Cost) (n i : ℕ) (u next v : Cell) → i < n → next ≡ step_toward u v
    → paid ≡ add_costs cost (move_cost u next)
    → add_costs paid (cost_of (next ∷ segment (n - (i + 1)) next v)) ≡ add_costs cost
    (cost_of (u ∷ segment (n - i) u v))
run_paid cost paid n i u next v h1 h2 h3 = grind (arith, nat_tests, segment_next, add_costs-assoc)

pub run_counted :
    (cost paid : Cost) (i : ℕ) (u next : Cell) → paid ≡ add_costs cost (move_cost u next)
    → cost.a + cost.b ≡ i → paid.a + paid.b ≡ i + 1
run_counted cost paid i u next h1 h2 = grind (arith, nat_tests, move_counts)

-- at the end nothing is left
pub run_ended :
    (g : GridData) (n i : ℕ) (u v : Cell) → n ≤ i → is_walk g (u ∷ segment (n - i) u v) ≡ is_free g u
run_ended g n i u v h = let none : n - i ≡ 0 = omega arith in rw none refl

pub run_paid_off :
    (cost : Cost) (n i : ℕ) (u v : Cell) → n ≤ i
    → add_costs cost (cost_of (u ∷ segment (n - i) u v)) ≡ cost
run_paid_off cost n i u v h = let none : n - i ≡ 0 = omega arith in rw none (add_costs-no_cost_right cost)

pub less_nothing : (n : ℕ) → n - 0 ≡ n
less_nothing n = omega arith

pub none_unless :
    {A : Type 0} (lined walk : Bool) (n most : ℕ) (x : A) → (lined ≡ false) ⊎ (most < n)
    → None ≡ (if (lined && walk) && nat_le n most then Some x else None)
none_unless lined walk n most x h1 = grind (arith, nat_tests)

pub none_where :
    {A : Type 0} (a b c : Bool) (x : A) → b ≡ false → None ≡ (if (a && b) && c then Some x else None)
none_where false b c x e = refl
none_where true b c x e = rw e refl

pub some_where :
    {A : Type 0} (a b c : Bool) (x y : A) → a ≡ true → b ≡ true → c ≡ true → y ≡ x
    → Some y ≡ (if (a && b) && c then Some x else None)
some_where a b c x y e f h s = rw (e, f, h, s) refl
