-- What pruning keeps, by the turn from the arrival.
use Rattle.std.proofs.Common.{◌≡◌, refl, Bool, true, false, not, ◌||◌, arith}
use Rattle.grid_moves.specs.declared.Corner.{Corner}
use Rattle.grid_moves.specs.declared.Dir.{Dir}
use Rattle.grid_moves.specs.Move.{is_dir, opposite}
use Rattle.pruning.specs.declared.Arrival.TheVariants.{By}
use Rattle.pruning.specs.declared.turns.Side.{Side}
use Rattle.pruning.specs.declared.turns.Side.TheVariants.{Right, Left}
use Rattle.pruning.specs.Turns.{turn, quarter, rear}
use Rattle.pruning.specs.Allowed.{keeps_eighth, keeps_quarter, is_kept}
use Rattle.pruning.proofs.Table.{each_dir, each_side, at_dir, at_both}

pub not_true : (b : Bool) → not b ≡ true → b ≡ false
not_true b h1 = grind arith

-- a test that fails for all directions, or for all sides and directions
none : (test : Dir → Bool) → each_dir (λ d. not (test d)) ≡ true → (d : Dir) → test d ≡ false
none test h d = not_true (test d) (at_dir (λ d. not (test d)) h d)

first : (a : Bool) → ((a || false) || false) ≡ a
first a = grind arith

last : (a : Bool) → (a || false) ≡ a
last a = grind arith

module _ (r : Corner) (blocked : Dir → Bool) where
  pub kept-on : (d : Dir) → is_kept r blocked (By d) d ≡ true
  kept-on d = rw (at_dir (λ d. is_dir d d) refl d) refl

  pub kept-eighth : (s : Side) (d : Dir) → is_kept r blocked (By d) (turn s d) ≡ keeps_eighth r blocked d s
  kept-eighth s d = grind (arith, none, at_dir, first, last)

  pub kept-quarter : (s : Side) (d : Dir)
      → is_kept r blocked (By d) (quarter s d) ≡ keeps_quarter r blocked d s
  kept-quarter s d = grind (arith, none, at_dir, last)

  -- no turn half-way back, or back
  not_kept : (d e : Dir) → is_dir e d ≡ false → is_dir e (turn Right d) ≡ false
      → is_dir e (quarter Right d) ≡ false
      → is_dir e (turn Left d) ≡ false → is_dir e (quarter Left d) ≡ false
      → is_kept r blocked (By d) e ≡ false
  not_kept d e h i j k l = rw (h, i, j, k, l) refl

  pub kept-back : (s : Side) (d : Dir) → is_kept r blocked (By d) (rear s d) ≡ false
  kept-back s d = grind (arith, not_kept, each_side, each_dir, not_true, at_both)

  pub kept-about : (d : Dir) → is_kept r blocked (By d) (opposite d) ≡ false
  kept-about d = not_kept d (opposite d) (none (λ d. is_dir (opposite d) d) refl d)
      (none (λ d. is_dir (opposite d) (turn Right d)) refl d)
      (none (λ d. is_dir (opposite d) (quarter Right d)) refl d)
      (none (λ d. is_dir (opposite d) (turn Left d)) refl d)
      (none (λ d. is_dir (opposite d) (quarter Left d)) refl d)
