-- Diagonals that lead elsewhere than to where the goal lies.
use Rattle.std.proofs.Common.{◌≡◌, ℕ, arith, Bool, true, false, refl, ap, subst, ◌||◌, ◌∙◌}
use Rattle.std.specs.Prelude.{Option, IfSome, Some, is_some, nat_eq}
use Rattle.std.proofs.lemmas.Bool.Decides.{nat_tests}
use Rattle.grid_moves.specs.declared.Cell.{Cell}
use Rattle.grid_moves.specs.declared.Dir.{Dir}
use Rattle.grid_moves.specs.Grid.{GridData}
use Rattle.grid_moves.specs.Move.{ahead, is_same, legal_ahead}
use Rattle.grid_moves.proofs.Ahead.{legal_ahead-ahead}
use Rattle.pruning.specs.First.{first_stop}
use Rattle.pruning.specs.Turns.{is_diagonal}
use Rattle.jump_plain.specs.Reach.{moves_to}
use Rattle.jump_block.specs.declared.straight.Axis.{Axis}
use Rattle.jump_block.specs.declared.word.Way.{Way}
use Rattle.jump_block.specs.Source.{FindsAside, IsAside, dir_on, is_toward, part_on, way_on}
use Rattle.jump_block.proofs.Directions.{off_both}

-- no goal is met at a cell in another row and another column
same_off : (u goal : Cell) → (nat_eq u.x goal.x || nat_eq u.y goal.y) ≡ false → is_same u goal ≡ false
same_off u goal h = grind (arith, nat_tests)

pub off_line : (d : Dir) (u goal : Cell) → (nat_eq u.x goal.x || nat_eq u.y goal.y) ≡ false → IsAside d u goal
off_line d u goal h = record {
  off = λ axis. off_both axis (way_on axis d) u goal h;
  apart = same_off u goal h;
}

-- what one move leaves
off_stepped : (x y : ℕ) (goal : Cell) (d : Dir) (axis : Axis) → is_diagonal d ≡ true
    → is_toward d (record { x = x; y = y }) goal ≡ false
    → IfSome (ahead d (record { x = x; y = y })) (λ v. moves_to (part_on axis d) v goal ≡ 0)
off_stepped x y goal d axis h k = grind (arith, nat_tests)

still_stepped : (x y : ℕ) (goal : Cell) (d : Dir) → is_diagonal d ≡ true
    → is_toward d (record { x = x; y = y }) goal ≡ false
    → IfSome (ahead d (record { x = x; y = y })) (λ v. is_toward d v goal ≡ false)
still_stepped x y goal d h k = grind (arith, nat_tests)

apart_stepped : (x y : ℕ) (goal : Cell) (d : Dir) → is_diagonal d ≡ true
    → is_toward d (record { x = x; y = y }) goal ≡ false
    → IfSome (ahead d (record { x = x; y = y })) (λ v. is_same v goal ≡ false)
apart_stepped x y goal d h k = grind (arith, nat_tests)

-- the cell ahead of one from which a diagonal leads elsewhere
module _ (g : GridData) (d : Dir) (u v goal : Cell) (diagonal : is_diagonal d ≡ true)
    (legal : legal_ahead g u d ≡ Some v) (aside : is_toward d u goal ≡ false) where
  stepped : (P : Cell → Type 0) → IfSome (ahead d u) P → P v
  stepped P h = subst (λ (o : Option Cell). IfSome o P) (legal_ahead-ahead g u v d legal) h

  pub aside_ahead : IsAside d v goal
  aside_ahead = record {
    off = λ axis. stepped (λ w. moves_to (part_on axis d) w goal ≡ 0)
        (off_stepped u.x u.y goal d axis diagonal aside);
    apart = stepped (λ w. is_same w goal ≡ false) (apart_stepped u.x u.y goal d diagonal aside);
  }

  pub still_aside : is_toward d v goal ≡ false
  still_aside = stepped (λ w. is_toward d w goal ≡ false) (still_stepped u.x u.y goal d diagonal aside)

-- one of four tests tells that a jump stops, or the last one alone
module _ (a b c d : Bool) where
  pub stops-first : a ≡ true → true ≡ (a || b || c || d)
  stops-first h = rw h refl

  pub stops-second : b ≡ true → true ≡ (a || b || c || d)
  stops-second h = grind (arith, nat_tests)

  pub stops-third : c ≡ true → true ≡ (a || b || c || d)
  stops-third h = grind (arith, nat_tests)

  pub stops-fourth : (result : Bool) → a ≡ false → b ≡ false → c ≡ false → result ≡ d
      → result ≡ (a || b || c || d)
  stops-fourth result h k l e = rw (h, k, l) e

-- a component finds a stop, given the way on which it was looked for
pub component_found : (g : GridData) (goal u : Cell) (d : Dir) (axis : Axis) (way : Way) → way ≡ way_on axis d
    → (old new : ℕ) (found : Bool) → FindsAside g u (dir_on axis way) old new found → IsAside d u goal
    → found ≡ is_some (first_stop g goal u (part_on axis d))
component_found g goal u d axis way e old new found finds aside =
    let by = subst (λ (w : Way). FindsAside g u (dir_on axis w) old new found) e finds goal in
    let its = by (aside.off axis) in
    its.2 ∙ ap (λ (o : Option ℕ). is_some o) its.1.0
