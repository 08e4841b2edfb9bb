-- Legal runs: they end within the map.
use Rattle.std.proofs.Common.{◌≡◌, ℕ, zero, suc, ◌+◌, ◌-◌, ◌<◌, ◌≤◌, arith, refl, subst, true, false}
use Rattle.std.specs.Prelude.{⊤, Option, Some, None, option_and_then, option_map, unwrap_or, is_some, nat_le}
use Rattle.std.proofs.lemmas.Bool.Decides.{nat_tests}
use Rattle.grid_moves.specs.declared.Cell.{Cell}
use Rattle.grid_moves.specs.declared.Dir.{Dir}
use Rattle.grid_moves.specs.declared.Dir.TheVariants.{N, NE, E, SE, S, SW, W, NW}
use Rattle.grid_moves.specs.Grid.{GridData}
use Rattle.grid_moves.specs.Move.{ahead, legal_ahead}
use Rattle.grid_moves.proofs.Legal.{legal_is, free_inside}
use Rattle.pruning.specs.Marked.{run_end}
use Rattle.pruning.specs.First.{moves_within}
use Rattle.pruning.specs.Laws.{RunLengthIsExact}
use Rattle.pruning.proofs.Table.{by_test}
use Rattle.pruning.proofs.Bridging.{Leads, legal_leads, one_of}

-- one move more at the end of a run
pub run_end-next : (g : GridData) (d : Dir) (k : ℕ) (x v w : Cell) → run_end g d k x ≡ Some v
    → legal_ahead g v d ≡ Some w → run_end g d (suc k) x ≡ Some w
run_end-next g d zero x v w h l = rw (one_of x v h, l) refl
run_end-next g d (suc k) x v w h l = by_cell (legal_ahead g x d) (λ y e. run_end-next g d k y v w e l) h
  where
    by_cell : (o : Option Cell)
        → ((y : Cell) → run_end g d k y ≡ Some v → run_end g d (suc k) y ≡ Some w)
        → option_and_then (λ y. run_end g d k y) o ≡ Some v
        → option_and_then (λ y. run_end g d (suc k) y) o ≡ Some w
    by_cell o h1 h2 = grind (arith, nat_tests)

-- what is left of the map in a direction
abbrev room : GridData → Dir → Cell → ℕ
room g N c = c.y
room g NE c = c.y
room g E c = g.width - c.x
room g SE c = g.width - c.x
room g S c = g.height - c.y
room g SW c = c.x
room g W c = c.x
room g NW c = c.x

abbrev IsNearer : GridData → Dir → Cell → Option Cell → Type 0
IsNearer g d u None = ⊤
IsNearer g d u (Some v) = v.x < g.width → v.y < g.height → room g d v < room g d u

nearer : (g : GridData) (x y : ℕ) (d : Dir)
    → IsNearer g d (record { x = x; y = y }) (ahead d (record { x = x; y = y }))
nearer g x y d = grind (arith, nat_tests)

-- a legal move leaves less room
less_room : (g : GridData) (d : Dir) (u v : Cell) → Leads g u v d → room g d v < room g d u
less_room g d u v l =
    let inside = free_inside g v (legal_is g u v l.legal).target in
    (subst (λ (o : Option Cell). IsNearer g d u o) l.ahead_is (nearer g u.x u.y d)) inside.0 inside.1

-- so does a run, by its moves
run_room : (g : GridData) (d : Dir) (k : ℕ) (x c : Cell) → run_end g d k x ≡ Some c
    → room g d c + k ≤ room g d x
run_room g d zero x c r = grind (arith, nat_tests, one_of)
run_room g d (suc k) x c r = by_cell (legal_ahead g x d) refl (λ v. run_room g d k v c) r
  where
    by_cell : (o : Option Cell) → legal_ahead g x d ≡ o
        → ((v : Cell) → run_end g d k v ≡ Some c → room g d c + k ≤ room g d v)
        → option_and_then (λ v. run_end g d k v) o ≡ Some c → room g d c + suc k ≤ room g d x
    by_cell None e next h = absurd (cc)
    by_cell (Some v) e next h = grind (arith, nat_tests, less_room, legal_leads)

room_within : (g : GridData) (d : Dir) (c : Cell) → c.x < g.width → c.y < g.height
    → room g d c ≤ g.width + g.height
room_within g d c h1 h2 = grind (arith, nat_tests)

-- no run is longer than the sides together
pub run_short : (g : GridData) (d : Dir) (k : ℕ) (x c : Cell) → run_end g d k x ≡ Some c
    → k ≤ g.width + g.height
run_short g d zero x c r = omega arith
run_short g d (suc k) x c r = by_cell (legal_ahead g x d) refl r
  where
    by_cell : (o : Option Cell) → legal_ahead g x d ≡ o
        → option_and_then (λ v. run_end g d k v) o ≡ Some c → suc k ≤ g.width + g.height
    by_cell None e h = absurd (cc)
    by_cell (Some v) e h =
        let inside = free_inside g x (legal_is g x v (legal_leads g x v d e).legal).source in
        let fits = room_within g d x inside.0 inside.1 in
        let used = run_room g d (suc k) x c r in
        omega arith

-- how long a run is
suc_le : (k m : ℕ) → nat_le k m ≡ nat_le (suc k) (suc m)
suc_le k m = grind (arith, nat_tests)

zero_le : (m : ℕ) → true ≡ nat_le 0 m
zero_le m = grind (arith, nat_tests)

not_le : (k : ℕ) → false ≡ nat_le (suc k) 0
not_le k = grind (arith, nat_tests)

counted : (g : GridData) (d : Dir) (n k : ℕ) (x : Cell) → k ≤ n
    → is_some (run_end g d k x) ≡ nat_le k (moves_within n g d x)
counted g d n zero x h = zero_le (moves_within n g d x)
counted g d zero (suc k) x h = absurd (omega arith)
counted g d (suc n) (suc k) x h =
    by_cell (legal_ahead g x d) (λ v. counted g d n k v (omega arith))
  where
    by_cell : (o : Option Cell)
        → ((v : Cell) → is_some (run_end g d k v) ≡ nat_le k (moves_within n g d v))
        → is_some (option_and_then (λ v. run_end g d k v) o)
        ≡ nat_le (suc k) (unwrap_or (option_map (λ v. suc (moves_within n g d v)) o) 0)
    by_cell o h1 = grind (arith, nat_tests, not_le, suc_le)

moves_within-few : (g : GridData) (d : Dir) (n : ℕ) (x : Cell) → moves_within n g d x ≤ n
moves_within-few g d zero x = omega arith
moves_within-few g d (suc n) x = by_cell (legal_ahead g x d) (λ v. moves_within-few g d n v)
  where
    by_cell : (o : Option Cell) → ((v : Cell) → moves_within n g d v ≤ n)
        → unwrap_or (option_map (λ v. suc (moves_within n g d v)) o) 0 ≤ suc n
    by_cell o h1 = grind (arith, nat_tests)

pub run_length_is_exact : RunLengthIsExact
run_length_is_exact g x d k = grind (arith, nat_tests, by_test, counted, moves_within-few, run_short)
