-- The first move with a property, or none; and what a potential or a set of cells tells of all walks.
use Rattle.std.proofs.lemmas.Bool.Decides.{nat_tests}
use Rattle.std.proofs.Common.{◌≡◌, ℕ, zero, suc, ◌+◌, ◌<◌, ◌≤◌, ◌⊎◌, inl, inr, arith, refl, ap, ◌∙◌}
use Rattle.std.proofs.Common.{subst, Bool, true, false, List, [], ◌∷◌}
use Rattle.std.specs.Prelude.{Option, Some, None, ◌&&◌, not}
use Rattle.std.specs.List.{AllByRecursion}
use Rattle.std.specs.Option.{option_or}
use Rattle.std.proofs.lemmas.Bool.{and_parts}
use Rattle.root2_cost.specs.declared.Cost.{Cost}
use Rattle.root2_cost.specs.declared.Signed.{Signed}
use Rattle.root2_cost.specs.Order.{IsAtMost}
use Rattle.root2_cost.specs.Sums.{no_cost}
use Rattle.root2_cost.specs.Signed.{signed_of, RisesAtMost}
use Rattle.root2_cost.proofs.Differences.{bounds_add, rise_from_nothing, rises_nothing, same_signed}
use Rattle.grid_moves.specs.declared.Cell.{Cell}
use Rattle.grid_moves.specs.declared.Dir.{Dir}
use Rattle.grid_moves.specs.declared.Dir.TheVariants.{N, NE, E, SE, S, SW, W, NW}
use Rattle.grid_moves.specs.Grid.{GridData}
use Rattle.grid_moves.specs.Move.{all_dirs, is_legal, legal_ahead, move_cost}
use Rattle.grid_moves.specs.Walk.{is_walk, cost_of, last_of, IsWalk}
use Rattle.grid_moves.proofs.Ahead.{legal_ahead-is, legal_ahead-of}
use Rattle.grid_moves.proofs.Legal.{free_inside, legal_is}
use Rattle.potential_check.specs.Potential.{IsFeasible, NoMove}
use Rattle.potential_check.specs.Moves.{failing_move, first_ahead, first_failing, first_in_row, first_in_rows}
use Rattle.potential_check.specs.Accepted.{is_value}

-- of two answers neither is there where the first is not
neither : {X : Type 0} (a b : Option X) → option_or a b ≡ None → (a ≡ None) × (b ≡ None)
neither None b e = (refl, e)
neither (Some x) b e = absurd (cc)

here_or_later : (m n : ℕ) → m ≤ n → (m ≡ n) ⊎ (m + 1 ≤ n)
here_or_later m n h = grind arith

module _ (g : GridData) (fails : Cell → Cell → Bool) where
  -- where no legal move fails, none is found
  module _ (none : NoMove g fails) where
    no_move : (u : Cell) (o : Option Cell) (d : Dir) → legal_ahead g u d ≡ o → failing_move fails u o ≡ None
    no_move u None d e = refl
    no_move u (Some v) d e = rw (none u v (legal_ahead-is g u v d e)) refl

    no_ahead : (u : Cell) (dirs : List Dir) → first_ahead g fails u dirs ≡ None
    no_ahead u [] = refl
    no_ahead u (d ∷ dirs) = rw (no_move u (legal_ahead g u d) d refl) (no_ahead u dirs)

    no_row : (y x count : ℕ) → first_in_row g fails y x count ≡ None
    no_row y x zero = refl
    no_row y x (suc count) = rw (no_ahead (record { x = x; y = y }) all_dirs) (no_row y (x + 1) count)

    no_rows : (y count : ℕ) → first_in_rows g fails y count ≡ None
    no_rows y zero = refl
    no_rows y (suc count) = rw (no_row y 0 g.width) (no_rows (y + 1) count)

    pub none_fails : first_failing g fails ≡ None
    none_fails = no_rows 0 g.height

  none_of : (u v : Cell) (d : Dir) → legal_ahead g u d ≡ Some v
      → failing_move fails u (legal_ahead g u d) ≡ None → fails u v ≡ false
  none_of u v d h1 h2 = grind (arith, nat_tests)

  none_each : (u : Cell) (dirs : List Dir) → first_ahead g fails u dirs ≡ None
      → AllByRecursion (λ d. failing_move fails u (legal_ahead g u d) ≡ None) dirs
  none_each u [] none = tt
  none_each u (d ∷ dirs) none = let parts = neither _ _ none in (parts.0, none_each u dirs parts.1)

  none_ahead : (u v : Cell) (d : Dir) → first_ahead g fails u all_dirs ≡ None → legal_ahead g u d ≡ Some v
      → fails u v ≡ false
  none_ahead u v N none e = none_of u v N e (none_each u all_dirs none).0
  none_ahead u v NE none e = none_of u v NE e (none_each u all_dirs none).1.0
  none_ahead u v E none e = none_of u v E e (none_each u all_dirs none).1.1.0
  none_ahead u v SE none e = none_of u v SE e (none_each u all_dirs none).1.1.1.0
  none_ahead u v S none e = none_of u v S e (none_each u all_dirs none).1.1.1.1.0
  none_ahead u v SW none e = none_of u v SW e (none_each u all_dirs none).1.1.1.1.1.0
  none_ahead u v W none e = none_of u v W e (none_each u all_dirs none).1.1.1.1.1.1.0
  none_ahead u v NW none e = none_of u v NW e (none_each u all_dirs none).1.1.1.1.1.1.1.0

  none_in_row : (y x count column : ℕ) → first_in_row g fails y x count ≡ None → x ≤ column
      → column < x + count → first_ahead g fails (record { x = column; y = y }) all_dirs ≡ None
  none_in_row y x zero column none low high = absurd (omega arith)
  none_in_row y x (suc count) column none low high =
      let parts = neither _ _ none in
      elim (here_or_later x column low) [
        | inl same ↦ rw (← same) parts.0
        | inr later ↦ none_in_row y (x + 1) count column parts.1 later (omega arith)
      ]

  none_in_rows : (y count row : ℕ) → first_in_rows g fails y count ≡ None → y ≤ row → row < y + count
      → first_in_row g fails row 0 g.width ≡ None
  none_in_rows y zero row none low high = absurd (omega arith)
  none_in_rows y (suc count) row none low high =
      let parts = neither _ _ none in
      elim (here_or_later y row low) [
        | inl same ↦ rw (← same) parts.0
        | inr later ↦ none_in_rows (y + 1) count row parts.1 later (omega arith)
      ]

  -- where none is found, no legal move fails
  pub none_found : first_failing g fails ≡ None → NoMove g fails
  none_found none u v legal =
      let inside = free_inside g u (legal_is g u v legal).source in
      let way = legal_ahead-of g u v legal in
      none_ahead u v way.0 (none_in_row u.y 0 g.width u.x
      (none_in_rows 0 g.height u.y none (omega arith) (omega arith)) (omega arith) (omega arith)) way.1

-- the first move with a property is that with another one, where legal moves have both or neither
module _ (g : GridData) (one other : Cell → Cell → Bool)
    (same : (u v : Cell) → is_legal g u v ≡ true → one u v ≡ other u v) where
  move_same : (u : Cell) (d : Dir) (o : Option Cell) → legal_ahead g u d ≡ o
      → failing_move one u o ≡ failing_move other u o
  move_same u d None e = refl
  move_same u d (Some v) e = rw (same u v (legal_ahead-is g u v d e)) refl

  ahead_same : (u : Cell) (dirs : List Dir) → first_ahead g one u dirs ≡ first_ahead g other u dirs
  ahead_same u [] = refl
  ahead_same u (d ∷ dirs) = rw (move_same u d (legal_ahead g u d) refl, ahead_same u dirs) refl

  row_same : (y x count : ℕ) → first_in_row g one y x count ≡ first_in_row g other y x count
  row_same y x zero = refl
  row_same y x (suc count) = rw (ahead_same (record { x = x; y = y }) all_dirs, row_same y (x + 1) count) refl

  rows_same : (y count : ℕ) → first_in_rows g one y count ≡ first_in_rows g other y count
  rows_same y zero = refl
  rows_same y (suc count) = rw (row_same y 0 g.width, rows_same (y + 1) count) refl

  pub first_failing-same : first_failing g one ≡ first_failing g other
  first_failing-same = rows_same 0 g.height

-- along a walk a feasible potential rises by at most the walk's cost
along : (g : GridData) (potential : Cell → Signed) → IsFeasible g potential → (s : Cell) (cells : List Cell)
    → is_walk g (s ∷ cells) ≡ true → RisesAtMost (potential s) (cost_of (s ∷ cells)) (potential (last_of s
    cells))
along g potential feasible s [] walk = rises_nothing (potential s)
along g potential feasible s (v ∷ cells) walk =
    let parts = and_parts (is_legal g s v) (is_walk g (v ∷ cells)) walk in
    bounds_add (potential s) (potential v) (potential (last_of v cells)) (move_cost s v) (cost_of (v ∷ cells))
    (feasible s v parts.0) (along g potential feasible v cells parts.1)

is_value-same : (s : Signed) (c : Cost) → is_value s c ≡ true → s ≡ signed_of c
is_value-same s c h = same_signed s (signed_of c) (grind arith) (grind arith)

-- so from nothing at s to a cost at t no walk costs less
pub none_cheaper : (g : GridData) (potential : Cell → Signed) (s t : Cell) (cost : Cost)
    → IsFeasible g potential → is_value (potential s) no_cost ≡ true → is_value (potential t) cost ≡ true
    → (cells : List Cell) → IsWalk g s t cells → IsAtMost cost (cost_of (s ∷ cells))
none_cheaper g potential s t cost feasible start goal cells walk =
    let paid = cost_of (s ∷ cells) in
    let rise = along g potential feasible s cells walk.legal in
    let at_goal : potential (last_of s cells) ≡ signed_of cost =
    ap potential walk.ends ∙ is_value-same (potential t) cost goal in
    rise_from_nothing paid cost
    (subst (λ (p : Signed). RisesAtMost p paid (signed_of cost)) (is_value-same (potential s) no_cost start)
    (subst (λ (p : Signed). RisesAtMost (potential s) paid p) at_goal rise))

-- cells that no legal move leaves keep every walk that begins in them
pub kept_inside : (g : GridData) (inside : Cell → Bool) → NoMove g (λ u v. inside u && not (inside v))
    → (s : Cell)
    (cells : List Cell) → is_walk g (s ∷ cells) ≡ true → inside s ≡ true → inside (last_of s cells) ≡ true
kept_inside g inside none s [] walk here = here
kept_inside g inside none s (v ∷ cells) walk here =
    let parts = and_parts (is_legal g s v) (is_walk g (v ∷ cells)) walk in
    kept_inside g inside none v cells parts.1 (stays (inside s) (inside v) here (none s v parts.0))
  where
    stays : (a b : Bool) → a ≡ true → (a && not b) ≡ false → b ≡ true
    stays a true h e = refl
    stays a false h e = absurd (let both : (a && true) ≡ true = rw h refl in cc)
