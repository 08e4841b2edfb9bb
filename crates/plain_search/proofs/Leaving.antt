-- What a state leaves out its parent has offered: the parent's move to that cell is legal.
use Rattle.std.proofs.lemmas.Grind.{common_steps}
use Rattle.std.proofs.lemmas.Bool.Decides.{nat_tests}
use Rattle.std.proofs.Common.{◌≡◌, ℕ, zero, suc, ◌+◌, ◌≤◌, ◌⊎◌, arith, true, false}
use Rattle.std.specs.Prelude.{Some}
use Rattle.grid_moves.specs.declared.Cell.{Cell}
use Rattle.grid_moves.specs.declared.Dir.{Dir}
use Rattle.grid_moves.specs.Grid.{GridData, is_free}
use Rattle.grid_moves.specs.Move.{is_legal, is_same, corner_of, ahead, column_ahead, row_ahead, before}
use Rattle.grid_moves.proofs.Legal.{IsLegal, legal_is, is_legal-from, same_cell, is_same-itself}
use Rattle.grid_moves.proofs.Legal.{passable-both}
use Rattle.plain_search.specs.declared.moves.Behind.{Behind}
use Rattle.plain_search.specs.Offers.{sides_of}

pub some_number : (m n : ℕ) → Some m ≡ Some n → m ≡ n
some_number m n e = cc

-- the column and the row of what lies ahead
pub ahead_parts : (d : Dir) (c v : Cell) → ahead d c ≡ Some v
    → (column_ahead d c.x ≡ Some v.x) × (row_ahead d c.y ≡ Some v.y)
ahead_parts d c v h1 = grind (arith, nat_tests)

pub before_is : (m n : ℕ) → before m ≡ Some n → m ≡ n + 1
before_is zero n e = absurd (cc)
before_is (suc m) n e = let f : m ≡ n = some_number m n e in omega arith

-- how a cell p lies to x, given the sides
pub record LiesAt (p x : Cell) (s : Behind) : Type 0 where
  pub left : s.left ≡ true → x.x ≡ p.x + 1
  pub right : s.right ≡ true → p.x ≡ x.x + 1
  pub column : s.left ≡ false → s.right ≡ false → p.x ≡ x.x
  pub above : s.above ≡ true → x.y ≡ p.y + 1
  pub below : s.below ≡ true → p.y ≡ x.y + 1
  pub row : s.above ≡ false → s.below ≡ false → p.y ≡ x.y

pub lies_at : (d : Dir) (p x : Cell) → ahead d p ≡ Some x → LiesAt p x (sides_of (Some d))
lies_at d p x h1 = grind (arith, common_steps, ahead_parts, before_is)

module _ (g : GridData) (p x v : Cell) (into : is_legal g p x ≡ true) (on : is_legal g x v ≡ true)
    (other : is_same p v ≡ false) where
  i : IsLegal g p x
  i = legal_is g p x into

  o : IsLegal g x v
  o = legal_is g x v on

  differ : p.x ≡ v.x → p.y ≡ v.y → ⊥
  differ h1 h2 = grind (arith, nat_tests, same_cell, is_same-itself)

  -- to a near cell, where both cells beside the move are free
  by_corners : p.x ≤ v.x + 1 → v.x ≤ p.x + 1 → p.y ≤ v.y + 1 → v.y ≤ p.y + 1
      → is_free g (corner_of p v) ≡ true → is_free g (corner_of v p) ≡ true → is_legal g p v ≡ true
  by_corners h1 h2 h3 h4 h5 h6 = grind (arith, nat_tests, is_legal-from, i, o, passable-both, differ)

  -- in one column
  in_column : p.x ≡ v.x → p.y ≤ v.y + 1 → v.y ≤ p.y + 1 → is_legal g p v ≡ true
  in_column h1 h2 h3 = grind (arith, nat_tests, by_corners, same_cell, o, i)

  -- in one row
  in_row : p.y ≡ v.y → p.x ≤ v.x + 1 → v.x ≤ p.x + 1 → is_legal g p v ≡ true
  in_row h1 h2 h3 = grind (arith, nat_tests, by_corners, same_cell, i, o)

  -- v beside x in its row: below or above p, or past a free cell
  pub beside_in_row : v.y ≡ x.y → (p.x ≡ v.x) ⊎ ((p.x ≡ x.x) × (is_free g (corner_of v p) ≡ true))
      → is_legal g p v ≡ true
  beside_in_row h1 h2 = grind (arith, nat_tests, in_column, i, by_corners, o, same_cell)

  -- v above or below x in its column
  pub beside_in_column : v.x ≡ x.x → (p.y ≡ v.y) ⊎ ((p.y ≡ x.y) × (is_free g (corner_of p v) ≡ true))
      → is_legal g p v ≡ true
  beside_in_column h1 h2 = grind (arith, nat_tests, in_row, i, by_corners, o, same_cell)

  -- v at a corner of x, where p lies in the column of one of them and in the row of one
  pub at_corner : (p.x ≡ x.x) ⊎ (p.x ≡ v.x) → (p.y ≡ x.y) ⊎ (p.y ≡ v.y) → is_legal g p v ≡ true
  at_corner h1 h2 = grind (arith, nat_tests, i, differ, in_row, o, in_column)
