-- What a move costs follows from its direction.
use Rattle.std.proofs.Common.{◌≡◌, ℕ, zero, suc, ◌+◌, ◌⊎◌, inl, inr, arith, true, false, ◌||◌, refl, subst}
use Rattle.std.specs.Prelude.{⊤, Option, Some, None, nat_eq}
use Rattle.std.proofs.lemmas.Bool.Decides.{nat_tests}
use Rattle.root2_cost.specs.declared.Cost.{Cost}
use Rattle.grid_moves.specs.declared.Cell.{Cell}
use Rattle.grid_moves.specs.declared.Dir.{Dir}
use Rattle.grid_moves.specs.declared.Dir.TheVariants.{N, NE, E, SE, S, SW, W, NW}
use Rattle.grid_moves.specs.Move.{ahead, dir_cost, move_cost}

abbrev cell : ℕ → ℕ → Cell
cell x y = record { x = x; y = y }

-- the cost of a move to the cell ahead, if there is one
abbrev IsPriced : Cell → Option Cell → Cost → Type 0
IsPriced u None c = ⊤
IsPriced u (Some v) c = move_cost u v ≡ c

along : (x y z t : ℕ) → (x ≡ z) ⊎ (y ≡ t) → move_cost (cell x y) (cell z t) ≡ record { a = 1; b = 0 }
along x y z t h = let e : (nat_eq x z || nat_eq y t) ≡ true = grind (arith, nat_tests) in rw e refl

across : (x y z t : ℕ) → (x ≡ z → ⊥) → (y ≡ t → ⊥)
    → move_cost (cell x y) (cell z t) ≡ record { a = 0; b = 1 }
across x y z t h k = let e : (nat_eq x z || nat_eq y t) ≡ false = grind (arith, nat_tests) in rw e refl

pub cost_there : (d : Dir) (u v : Cell) → ahead d u ≡ Some v → move_cost u v ≡ dir_cost d
cost_there d u v h = subst (λ (o : Option Cell). IsPriced u o (dir_cost d)) h (by_dir u.x u.y d)
  where
    by_dir : (x y : ℕ) (d : Dir) → IsPriced (cell x y) (ahead d (cell x y)) (dir_cost d)
    by_dir x zero N = tt
    by_dir x (suc y) N = along x (suc y) x y (inl refl)
    by_dir x zero NE = tt
    by_dir x (suc y) NE = across x (suc y) (x + 1) y (λ e. omega arith) (λ e. omega arith)
    by_dir x y E = along x y (x + 1) y (inr refl)
    by_dir x y SE = across x y (x + 1) (y + 1) (λ e. omega arith) (λ e. omega arith)
    by_dir x y S = along x y x (y + 1) (inl refl)
    by_dir zero y SW = tt
    by_dir (suc x) y SW = across (suc x) y x (y + 1) (λ e. omega arith) (λ e. omega arith)
    by_dir zero y W = tt
    by_dir (suc x) y W = along (suc x) y x y (inr refl)
    by_dir zero y NW = tt
    by_dir (suc x) zero NW = tt
    by_dir (suc x) (suc y) NW = across (suc x) (suc y) x y (λ e. omega arith) (λ e. omega arith)
