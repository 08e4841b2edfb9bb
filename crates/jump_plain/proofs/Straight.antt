-- The first stop of a straight jump: the goal where the scan reaches it, else the mark.
use Rattle.std.proofs.lemmas.Grind.{common_steps}
use Rattle.std.proofs.Common.{◌≡◌, ℕ, zero, suc, ◌+◌, ◌-◌, arith, Bool, true, false, ◌&&◌, ◌||◌, refl}
use Rattle.std.specs.Prelude.{⊤, Option, Some, None, option_and_then, option_map, unwrap_or, is_some, nat_lt}
use Rattle.std.specs.Prelude.{nat_le, nat_eq, if◌then◌else◌}
use Rattle.std.proofs.lemmas.Bool.Decides.{nat_tests}
use Rattle.grid_moves.specs.declared.Cell.{Cell}
use Rattle.grid_moves.specs.declared.Dir.{Dir}
use Rattle.grid_moves.specs.Grid.{GridData}
use Rattle.grid_moves.specs.Move.{ahead, is_same, legal_ahead}
use Rattle.pruning.specs.Turns.{is_diagonal}
use Rattle.pruning.specs.Marked.{is_forced}
use Rattle.pruning.specs.First.{first_within, moves_within, is_stop, first_stop}
use Rattle.pruning.specs.Stop.{IsFirstStop}
use Rattle.pruning.proofs.Bridging.{legal_leads}
use Rattle.pruning.proofs.Stopping.{first_stop_is_first}
use Rattle.jump_plain.specs.declared.scan.Reach.{Reach}
use Rattle.jump_plain.specs.Reach.{reach_to, reach_of, moves_to, stop_of}

-- from the next cell the goal is one move nearer, or there, or not ahead
abbrev nearer : Bool → ℕ → ℕ
nearer there k = if there then 1 else if nat_lt 0 k then k + 1 else 0

rising : (on : Bool) (x goal : ℕ)
    → (if on then goal - x else 0) ≡ nearer (nat_eq (x + 1) goal && on) (if on then goal - (x + 1) else 0)
rising on x goal = grind (arith, nat_tests, common_steps)

falling : (on : Bool) (x goal : ℕ)
    → (if on then suc x - goal else 0) ≡ nearer (nat_eq x goal && on) (if on then x - goal else 0)
falling on x goal = grind (arith, nat_tests, common_steps)

exchange : (a b : Bool) (n k : ℕ) → n ≡ nearer (a && b) k → n ≡ nearer (b && a) k
exchange a b n k h1 = grind (arith, nat_tests, common_steps)

abbrev IsNearer : Dir → Cell → Cell → Option Cell → Type 0
IsNearer d u goal None = ⊤
IsNearer d u goal (Some v) = moves_to d u goal ≡ nearer (is_same v goal) (moves_to d v goal)

moves_to-ahead : (x y : ℕ) (goal : Cell) (d : Dir) → is_diagonal d ≡ false
    → IsNearer d (record { x = x; y = y }) goal (ahead d (record { x = x; y = y }))
moves_to-ahead x y goal d h1 = grind (arith, nat_tests, common_steps, exchange)

moves_to-next : (d : Dir) (u v goal : Cell) → is_diagonal d ≡ false → ahead d u ≡ Some v
    → moves_to d u goal ≡ nearer (is_same v goal) (moves_to d v goal)
moves_to-next d u v goal h e = grind (arith, nat_tests, common_steps, moves_to-ahead)

-- no goal is reached in no move
nothing : (goal : ℕ) → None ≡ stop_of (record { moves = 0; marked = false }) goal
nothing goal = let none : (nat_lt 0 goal && nat_le goal 0) ≡ false = grind (arith, nat_tests) in rw none refl

-- from further on everything is one move nearer
step_on : (k : ℕ) (marked : Bool) (goal : ℕ)
    → option_map (λ k. suc k) (stop_of (record { moves = k; marked = marked }) goal)
    ≡ stop_of (record { moves = suc k; marked = marked }) (nearer false goal)
step_on k marked goal = grind (arith, nat_tests, common_steps)

-- one cell further: the goal there, a mark there, or what is found from there
stop-next : (there forced : Bool) (o : Option ℕ) (m goal : ℕ)
    → (if there || forced then Some 1 else option_map (λ k. suc k) (stop_of (reach_to o m) goal))
    ≡ stop_of (reach_to (if forced then Some 1 else option_map (λ k. suc k) o) (suc m)) (nearer there goal)
stop-next there forced o m goal = grind (arith, nat_tests, common_steps)

straight : (a b c x y : Bool) → c ≡ false → ((a || (b || (c && x))) || (c && y)) ≡ (a || b)
straight a b c x y h = grind arith

-- a straight jump stops at the goal and where a neighbour is forced
pub is_stop-straight : (g : GridData) (goal : Cell) (d : Dir) (v : Cell) → is_diagonal d ≡ false
    → is_stop g goal d v ≡ (is_same v goal || is_forced g v d)
is_stop-straight g goal d v h = straight (is_same v goal) (is_forced g v d) (is_diagonal d) _ _ h

straight_within : (g : GridData) (goal : Cell) (d : Dir) → is_diagonal d ≡ false → (n : ℕ) (x : Cell)
    → first_within n g d (is_stop g goal d) x
    ≡ stop_of (reach_to (first_within n g d (λ v. is_forced g v d) x) (moves_within n g d x))
    (moves_to d x goal)
straight_within g goal d h zero x = nothing (moves_to d x goal)
straight_within g goal d h (suc n) x =
    by_cell (legal_ahead g x d) refl (λ v. straight_within g goal d h n v)
  where
    by_cell : (o : Option Cell) → legal_ahead g x d ≡ o
        → ((v : Cell) → first_within n g d (is_stop g goal d) v
        ≡ stop_of (reach_to (first_within n g d (λ v. is_forced g v d) v) (moves_within n g d v))
        (moves_to d v goal))
        → option_and_then (λ v. if is_stop g goal d v then Some 1
        else option_map (λ k. suc k) (first_within n g d (is_stop g goal d) v)) o
        ≡ stop_of (reach_to (option_and_then (λ v. if is_forced g v d then Some 1
        else option_map (λ k. suc k) (first_within n g d (λ v. is_forced g v d) v)) o)
        (unwrap_or (option_map (λ v. suc (moves_within n g d v)) o) 0)) (moves_to d x goal)
    by_cell None e next = nothing (moves_to d x goal)
    by_cell (Some v) e next = rw (
      is_stop-straight g goal d v h,
      next v,
      moves_to-next d x v goal h (legal_leads g x v d e).ahead_is,
    ) (stop-next (is_same v goal) (is_forced g v d) (first_within n g d (λ v. is_forced g v d) v)
        (moves_within n g d v) (moves_to d v goal))

-- the first stop of a straight jump
pub straight_stop : (g : GridData) (goal x : Cell) (d : Dir) → is_diagonal d ≡ false
    → first_stop g goal x d ≡ stop_of (reach_of g x d) (moves_to d x goal)
straight_stop g goal x d h = straight_within g goal d h (g.width + g.height) x

-- a mark on the run is a stop; without one there is none where the goal is not ahead
pub mark_stops : (g : GridData) (goal x : Cell) (d : Dir) → is_diagonal d ≡ false → (reach : Reach)
    → reach ≡ reach_of g x d → reach.marked ≡ true → true ≡ is_some (first_stop g goal x d)
mark_stops g goal x d h reach is m = grind (arith, nat_tests, common_steps, straight_stop)

pub no_stop : (g : GridData) (goal x : Cell) (d : Dir) → is_diagonal d ≡ false → (reach : Reach)
    → reach ≡ reach_of g x d → reach.marked ≡ false → moves_to d x goal ≡ 0
    → false ≡ is_some (first_stop g goal x d)
no_stop g goal x d h reach is m k = grind (arith, nat_tests, common_steps, straight_stop)

-- what is computed on a grid is the first stop on it
pub first_meets : (g h : GridData) (goal x : Cell) (d : Dir) (answer : Option ℕ) → g ≡ h
    → answer ≡ first_stop g goal x d → IsFirstStop h goal x d answer
first_meets g h goal x d answer e f = grind (arith, nat_tests, common_steps, first_stop_is_first)
