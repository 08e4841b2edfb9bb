-- A diagonal jump stops at the goal, where a neighbour is forced, and where a straight jump in a component
-- finds a stop.
use Rattle.std.proofs.lemmas.Bool.Decides.{nat_tests}
use Rattle.std.proofs.lemmas.Grind.{common_steps}
use Rattle.std.proofs.Common.{◌≡◌, ℕ, zero, suc, ◌+◌, arith, Bool, true, false, not, ◌||◌, refl, ap, sym, ◌∙◌}
use Rattle.std.proofs.Common.{◌&&◌}
use Rattle.std.specs.Prelude.{Option, Some, None, is_some, option_and_then, option_map, if◌then◌else◌}
use Rattle.grid_moves.specs.declared.Cell.{Cell}
use Rattle.grid_moves.specs.declared.Dir.{Dir}
use Rattle.grid_moves.specs.Grid.{GridData}
use Rattle.grid_moves.specs.Move.{is_same, legal_ahead}
use Rattle.pruning.specs.declared.turns.Side.TheVariants.{Right, Left}
use Rattle.pruning.specs.Turns.{turn, is_diagonal}
use Rattle.pruning.specs.Marked.{is_forced}
use Rattle.pruning.specs.First.{first_within, holds_on_run, is_stop, first_stop}
use Rattle.pruning.proofs.Table.{turn_parity}
use Rattle.pruning.proofs.Firsts.{first_on_run-next, first_on_run-none}
use Rattle.jump_plain.proofs.Straight.{is_stop-straight}

-- whether anything is found does not hang on the place
some_later : (o : Option ℕ) → is_some (option_map (λ k. suc k) o) ≡ is_some o
some_later o = grind (arith, nat_tests, common_steps)

-- something is found at the first cell, or later
abbrev is_found : Bool → Option ℕ → Bool
is_found here later = is_some (if here then Some 1 else option_map (λ k. suc k) later)

found_either : (a b : Bool) (r p q : Option ℕ) → is_some r ≡ (is_some p || is_some q)
    → is_found (a || b) r ≡ (is_found a p || is_found b q)
found_either a b r p q h1 = grind (arith, nat_tests, common_steps, some_later)

-- on a run, one of two tests holds somewhere exactly where the one does or the other
module _ (g : GridData) (d : Dir) (both one other : Cell → Bool)
    (split : (v : Cell) → both v ≡ (one v || other v)) where
  either_within : (n : ℕ) (x : Cell) → is_some (first_within n g d both x)
      ≡ (is_some (first_within n g d one x) || is_some (first_within n g d other x))
  either_within zero x = refl
  either_within (suc n) x = by_cell (legal_ahead g x d) (λ v. either_within n v)
    where
      by_cell : (o : Option Cell) → ((v : Cell) → is_some (first_within n g d both v)
          ≡ (is_some (first_within n g d one v) || is_some (first_within n g d other v)))
          → is_some (option_and_then
          (λ v. if both v then Some 1 else option_map (λ k. suc k) (first_within n g d both v)) o)
          ≡ (is_some (option_and_then
          (λ v. if one v then Some 1 else option_map (λ k. suc k) (first_within n g d one v)) o)
          || is_some (option_and_then
          (λ v. if other v then Some 1 else option_map (λ k. suc k) (first_within n g d other v)) o))
      by_cell o h1 = grind (arith, nat_tests, common_steps, found_either)

-- on the run in this direction lies the goal, or a forced neighbour
abbrev goal_on : GridData → Cell → Cell → Dir → Bool
goal_on g goal x d = holds_on_run g d (λ u. is_same u goal) x

abbrev forced_on : GridData → Cell → Dir → Bool
forced_on g x d = holds_on_run g d (λ u. is_forced g u d) x

-- a straight jump finds a stop where one of them does
straight_finds : (g : GridData) (goal x : Cell) (d : Dir) → is_diagonal d ≡ false
    → is_some (first_stop g goal x d) ≡ (goal_on g goal x d || forced_on g x d)
straight_finds g goal x d h = either_within g d (is_stop g goal d) (λ u. is_same u goal)
    (λ u. is_forced g u d) (λ v. is_stop-straight g goal d v h) (g.width + g.height) x

is_stop-diagonal : (g : GridData) (goal : Cell) (d : Dir) (v : Cell) → is_diagonal d ≡ true
    → is_stop g goal d v ≡ (is_same v goal || is_forced g v d
    || is_some (first_stop g goal v (turn Right d)) || is_some (first_stop g goal v (turn Left d)))
is_stop-diagonal g goal d v h = rw (
  straight_finds g goal v (turn Right d) (turn_parity Right d ∙ ap not h),
  straight_finds g goal v (turn Left d) (turn_parity Left d ∙ ap not h),
) (regroup (is_same v goal) (is_forced g v d) (goal_on g goal v (turn Right d))
    (goal_on g goal v (turn Left d))
    (forced_on g v (turn Right d)) (forced_on g v (turn Left d)) (is_diagonal d) h)
  where
    regroup : (a b c d e f diagonal : Bool) → diagonal ≡ true
        → ((a || (b || (diagonal && (e || f)))) || (diagonal && (c || d)))
        ≡ (((a || b) || (c || e)) || (d || f))
    regroup a b c d e f diagonal h = rw h (grind arith)

-- the same as code reads it
pub is_stop-read : (g : GridData) (goal : Cell) (d : Dir) (v : Cell) → is_diagonal d ≡ true → (read b : Bool)
    → read ≡ (is_same v goal || is_forced g v d || is_some (first_stop g goal v (turn Right d))
    || is_some (first_stop g goal v (turn Left d))) → read ≡ b → is_stop g goal d v ≡ b
is_stop-read g goal d v h read b e f = is_stop-diagonal g goal d v h ∙ sym e ∙ f

-- a stop that many moves later
abbrev pub later : ℕ → Option ℕ → Option ℕ
later m answer = option_map (λ k. m + k) answer

-- what a jump has found, after so many moves
module _ (g : GridData) (goal u : Cell) (d : Dir) (m : ℕ) (all : Option ℕ)
    (so_far : all ≡ later m (first_stop g goal u d)) where
  pub stops_nowhere : legal_ahead g u d ≡ None → None ≡ all
  stops_nowhere e = grind (arith, nat_tests, common_steps, first_on_run-none)

  module _ (v : Cell) (legal : legal_ahead g u d ≡ Some v) where
    found : all ≡ later m
        (if is_stop g goal d v then Some 1 else option_map (λ k. suc k) (first_stop g goal v d))
    found = so_far
        ∙ ap (λ (o : Option ℕ). later m o) (first_on_run-next g d (is_stop g goal d) u v legal)

    pub stops_here : is_stop g goal d v ≡ true → Some (m + 1) ≡ all
    stops_here h = sym (found ∙ rw h refl)

    pub stops_later : is_stop g goal d v ≡ false → all ≡ later (m + 1) (first_stop g goal v d)
    stops_later h = found ∙ rw h (regroup (first_stop g goal v d))
      where
        regroup : (o : Option ℕ) → later m (option_map (λ k. suc k) o) ≡ later (m + 1) o
        regroup o = grind (arith, nat_tests, common_steps)
