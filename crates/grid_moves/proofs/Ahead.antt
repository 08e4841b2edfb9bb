-- The cells that lie ahead are the neighbours.
use Rattle.std.proofs.Common.{◌≡◌, ℕ, zero, suc, ◌+◌, ◌≤◌, ◌⊎◌, inl, inr, arith, refl, ap, sym, Bool}
use Rattle.std.proofs.Common.{true, false}
use Rattle.std.specs.Prelude.{Option, Some, None, option_and_then, if◌then◌else◌}
use Rattle.grid_moves.specs.declared.Cell.{Cell}
use Rattle.grid_moves.specs.declared.Dir.{Dir}
use Rattle.grid_moves.specs.declared.Dir.TheVariants.{N, NE, E, SE, S, SW, W, NW}
use Rattle.grid_moves.specs.Grid.{GridData, is_free}
use Rattle.grid_moves.specs.Move.{is_legal, ahead, legal_ahead, column_ahead, row_ahead, before}
use Rattle.grid_moves.proofs.Legal.{IsLegal, legal_is, same_cell}

-- a number against another at most one away
three : (m n : ℕ) → m ≤ n + 1 → n ≤ m + 1 → (n ≡ m + 1) ⊎ (n ≡ m) ⊎ (m ≡ n + 1)
three m n h k = grind arith

pub before-next : (m n : ℕ) → m ≡ n + 1 → before m ≡ Some n
before-next zero n e = absurd (omega arith)
before-next (suc m) n e = let s : m ≡ n = omega arith in rw s refl

pub there : (d : Dir) (u v : Cell) → column_ahead d u.x ≡ Some v.x → row_ahead d u.y ≡ Some v.y
    → ahead d u ≡ Some v
there d u v e f = rw (e, f) (ap (λ (c : Cell). Some c) (same_cell (record { x = v.x; y = v.y }) v refl refl))

-- where the move is legal some direction leads there
pub ahead_of : (g : GridData) (u v : Cell) → is_legal g u v ≡ true → (d : Dir) × (ahead d u ≡ Some v)
ahead_of g u v h = elim (three u.x v.x l.x_low l.x_high) [
  | inl x ↦ elim (three u.y v.y l.y_low l.y_high) [
    | inl y ↦ (SE, there SE u v (rw x refl) (rw y refl))
    | inr (inl y) ↦ (E, there E u v (rw x refl) (rw y refl))
    | inr (inr y) ↦ (NE, there NE u v (rw x refl) (before-next u.y v.y y))
  ]
  | inr (inl x) ↦ elim (three u.y v.y l.y_low l.y_high) [
    | inl y ↦ (S, there S u v (rw x refl) (rw y refl))
    | inr (inl y) ↦ absurd (l.differ (sym x) (sym y))
    | inr (inr y) ↦ (N, there N u v (rw x refl) (before-next u.y v.y y))
  ]
  | inr (inr x) ↦ elim (three u.y v.y l.y_low l.y_high) [
    | inl y ↦ (SW, there SW u v (before-next u.x v.x x) (rw y refl))
    | inr (inl y) ↦ (W, there W u v (before-next u.x v.x x) (rw y refl))
    | inr (inr y) ↦ (NW, there NW u v (before-next u.x v.x x) (before-next u.y v.y y))
  ]
]
  where
    l : IsLegal g u v
    l = legal_is g u v h

pub legal_ahead-of : (g : GridData) (u v : Cell) → is_legal g u v ≡ true
    → (d : Dir) × (legal_ahead g u d ≡ Some v)
legal_ahead-of g u v h = let a = ahead_of g u v h in (a.0, rw (a.1, h) refl)

-- what lies ahead over a legal move: it is the cell ahead, is reached by one, and is free
module _ (g : GridData) (u v : Cell) (d : Dir) (h : legal_ahead g u d ≡ Some v) where
  by_test : (c : Cell) (b : Bool) → is_legal g u c ≡ b → (if b then Some c else None) ≡ Some v
      → (Some c ≡ Some v) × (is_legal g u v ≡ true)
  by_test c true e s = let same : c ≡ v = cc in (s, rw (← same) e)
  by_test c false e s = absurd (cc)

  by_cell : (o : Option Cell) → option_and_then (λ c. if is_legal g u c then Some c else None) o ≡ Some v
      → (o ≡ Some v) × (is_legal g u v ≡ true)
  by_cell None s = absurd (cc)
  by_cell (Some c) s = by_test c (is_legal g u c) refl s

  pub legal_ahead-ahead : ahead d u ≡ Some v
  legal_ahead-ahead = (by_cell (ahead d u) h).0

  pub legal_ahead-is : is_legal g u v ≡ true
  legal_ahead-is = (by_cell (ahead d u) h).1

  pub legal_ahead-free : is_free g v ≡ true
  legal_ahead-free = (legal_is g u v legal_ahead-is).target
