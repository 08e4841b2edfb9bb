-- Induction by the number of moves, the number of diagonal ones, and the sum of their places.
use Rattle.std.proofs.Common.{ℕ, zero, suc, ◌<◌, List, length, arith}
use Rattle.grid_moves.specs.declared.Cell.{Cell}
use Rattle.grid_moves.specs.Walk.{cost_of}
use Rattle.pruning.specs.Facts.{diagonal_places, IsSmaller}

module _ (P : List Cell → Type 0) (step : (ds : List Cell) → ((es : List Cell) → IsSmaller es ds → P es)
    → P ds) where
  by_places : (n m : ℕ) → ((es : List Cell) → length es < n → P es)
      → ((es : List Cell) → length es < suc n → (cost_of es).b < m → P es)
      → (k : ℕ) (ds : List Cell) → length ds < suc n → (cost_of ds).b < suc m → diagonal_places ds < k → P ds
  by_places n m short straight zero ds h i j = absurd (omega arith)
  by_places n m short straight (suc k) ds h i j = grind (arith, by_places n m short straight k)

  by_diagonals : (n : ℕ) → ((es : List Cell) → length es < n → P es) → (m : ℕ) (ds : List Cell)
      → length ds < suc n → (cost_of ds).b < m → P ds
  by_diagonals n short zero ds h i = absurd (omega arith)
  by_diagonals n short (suc m) ds h i =
      by_places n m short (by_diagonals n short m) (suc (diagonal_places ds)) ds h i (omega arith)

  by_length : (n : ℕ) (ds : List Cell) → length ds < n → P ds
  by_length zero ds h = absurd (omega arith)
  by_length (suc n) ds h = by_diagonals n (by_length n) (suc ((cost_of ds).b)) ds h (omega arith)

  pub IsSmaller-induction : (ds : List Cell) → P ds
  IsSmaller-induction ds = by_length (suc (length ds)) ds (omega arith)
