-- Cells are places, and a legal move leads to the place ahead.
use Rattle.std.proofs.Common.{◌≡◌, ℕ, arith, Bool, true, false, refl, ap, sym, ◌∙◌, subst}
use Rattle.std.specs.Prelude.{ℤ, pos, negsuc, ◌+ℤ◌, Option, Some, None, option_and_then, is_some}
use Rattle.std.specs.Prelude.{if◌then◌else◌}
use Rattle.std.proofs.lemmas.Bool.Decides.{nat_tests}
use Rattle.grid_moves.specs.declared.Cell.{Cell}
use Rattle.grid_moves.specs.declared.Dir.{Dir}
use Rattle.grid_moves.specs.Grid.{GridData, is_free}
use Rattle.grid_moves.specs.Move.{ahead, column_ahead, row_ahead, is_legal, is_passable, legal_ahead, is_open}
use Rattle.grid_moves.proofs.Ahead.{ahead_of}
use Rattle.grid_moves.proofs.Legal.{and_both, legal_is, same_cell}
use Rattle.pruning.specs.declared.Arrival.{Arrival}
use Rattle.pruning.specs.declared.turns.Side.TheVariants.{Right, Left}
use Rattle.pruning.specs.Turns.{turn, is_diagonal}
use Rattle.pruning.specs.Allowed.{can_move}
use Rattle.pruning.specs.Canonical.{IsAllowedMove}
use Rattle.pruning.proofs.Places.{Place, move, columns, rows}
use Rattle.pruning.proofs.Table.{same_place, by_parity}
use Rattle.pruning.proofs.Moves.{can_move-straight, can_move-diagonal}

abbrev pub place_of : Cell → Place
place_of c = record { x = pos c.x; y = pos c.y }

abbrev pub free_at : GridData → ℤ → ℤ → Bool
free_at g (pos x) (pos y) = is_free g (record { x = x; y = y })
free_at g (pos x) (negsuc y) = false
free_at g (negsuc x) y = false

-- whether a place is a free cell
abbrev pub free_place : GridData → Place → Bool
free_place g p = free_at g p.x p.y

-- where a column or row that lies ahead stands: before the first there is none
abbrev IsAt : Option ℕ → ℤ → Type 0
IsAt None i = i ≡ negsuc 0
IsAt (Some n) i = i ≡ pos n

column_at : (d : Dir) (x : ℕ) → IsAt (column_ahead d x) (pos x +ℤ columns d)
column_at d x = grind (arith, nat_tests)

row_at : (d : Dir) (y : ℕ) → IsAt (row_ahead d y) (pos y +ℤ rows d)
row_at d y = grind (arith, nat_tests)

abbrev cell_at : Option ℕ → Option ℕ → Option Cell
cell_at a b = option_and_then (λ x. option_and_then (λ y. Some (record { x = x; y = y })) b) a

-- the cell ahead stands where the move leads
pub ahead_there : (d : Dir) (u v : Cell) → ahead d u ≡ Some v → move d (place_of u) ≡ place_of v
ahead_there d u v h = grind (arith, nat_tests, columns, rows, column_at, row_at, same_place)

-- a cell is open exactly where the place ahead is free
pub open_there : (g : GridData) (u : Cell) (d : Dir) → is_open g u d ≡ free_place g (move d (place_of u))
open_there g u d = grind (arith, nat_tests, columns, rows, column_at, row_at)

-- cells that stand at one place are one
pub one_cell : (u v : Cell) → place_of u ≡ place_of v → u ≡ v
one_cell u v h = grind (arith, nat_tests, same_cell)

-- a legal move leads to the cell ahead
pub record Leads (g : GridData) (u v : Cell) (d : Dir) : Type 0 where
  pub ahead_is : ahead d u ≡ Some v
  pub legal : is_legal g u v ≡ true

pub one_of : (u v : Cell) → Some u ≡ Some v → u ≡ v
one_of u v h = grind (arith, nat_tests)

-- the same in other spellings
pub leads_can : (g : GridData) (u v : Cell) (d : Dir) → Leads g u v d → can_move g u d ≡ true
leads_can g u v d l = rw (l.ahead_is, l.legal) refl

pub leads_legal : (g : GridData) (u v : Cell) (d : Dir) → Leads g u v d → legal_ahead g u d ≡ Some v
leads_legal g u v d l = rw (l.ahead_is, l.legal) refl

pub legal_leads : (g : GridData) (u v : Cell) (d : Dir) → legal_ahead g u d ≡ Some v → Leads g u v d
legal_leads g u v d h = by_cell (ahead d u) refl h
  where
    by_test : (w : Cell) (b : Bool) → ahead d u ≡ Some w → is_legal g u w ≡ b
        → (if b then Some w else None) ≡ Some v → Leads g u v d
    by_test w true e l k = grind (arith, nat_tests, one_of)
    by_test w false e l k = absurd (cc)

    by_cell : (o : Option Cell) → ahead d u ≡ o
        → option_and_then (λ w. if is_legal g u w then Some w else None) o ≡ Some v → Leads g u v d
    by_cell o h1 h2 = grind (arith, nat_tests, by_test)

-- what a direction in which a move is legal leads to
pub leads_from : (g : GridData) (u : Cell) (d : Dir) → can_move g u d ≡ true → (v : Cell) × Leads g u v d
leads_from g u d h = by_cell (legal_ahead g u d) refl h
  where
    by_cell : (o : Option Cell) → legal_ahead g u d ≡ o → is_some o ≡ true → (v : Cell) × Leads g u v d
    by_cell None e k = absurd (cc)
    by_cell (Some v) e k = (v, legal_leads g u v d e)

-- the direction of a legal move
pub leads_of : (g : GridData) (u v : Cell) → is_legal g u v ≡ true → (d : Dir) × Leads g u v d
leads_of g u v h = let a = ahead_of g u v h in (a.0, record { ahead_is = a.1; legal = h })

-- where a legal move leads to
pub leads_there : (g : GridData) (u v : Cell) (d : Dir) → Leads g u v d → move d (place_of u) ≡ place_of v
leads_there g u v d l = ahead_there d u v l.ahead_is

-- the corner rule lets a move pass between the cells beside it
abbrev pub Passes : GridData → Cell → Dir → Type 0
Passes g u d = is_diagonal d ≡ true
    → is_passable g.corner (is_open g u (turn Left d)) (is_open g u (turn Right d)) ≡ true

pub leads_passes : (g : GridData) (u v : Cell) (d : Dir) → Leads g u v d → Passes g u d
leads_passes g u v d l h = (and_both (is_open g u d) _
    (sym (can_move-diagonal g u d (legal_is g u v l.legal).source h) ∙ leads_can g u v d l)).1

-- a move between free cells that passes is legal
pub leads_over : (g : GridData) (u v : Cell) (d : Dir) → is_free g u ≡ true → is_free g v ≡ true
    → move d (place_of u) ≡ place_of v → Passes g u d → Leads g u v d
leads_over g u v d f k e p =
    let ahead_free : is_open g u d ≡ true = open_there g u d ∙ ap (λ (q : Place). free_place g q) e ∙ k in
    let can : can_move g u d ≡ true =
    grind (arith, nat_tests, by_parity, can_move-diagonal, can_move-straight) in
    let l = leads_from g u d can in
    subst (λ (c : Cell). Leads g u c d) (one_cell l.0 v (sym (leads_there g u l.0 d l.1) ∙ e)) l.1

-- a free place is a free cell
pub cell_there : (g : GridData) (p : Place) → free_place g p ≡ true
    → (c : Cell) × (p ≡ place_of c) × (is_free g c ≡ true)
cell_there g p h = by_parts p.x p.y refl refl h
  where
    by_parts : (i j : ℤ) → p.x ≡ i → p.y ≡ j → free_at g i j ≡ true
        → (c : Cell) × (p ≡ place_of c) × (is_free g c ≡ true)
    by_parts (pos x) (pos y) e f k =
        (record { x = x; y = y }, same_place p (place_of (record { x = x; y = y })) e f, k)
    by_parts (pos x) (negsuc y) e f k = absurd (cc)
    by_parts (negsuc x) j e f k = absurd (cc)

-- what an allowed move leads to
pub allowed_leads : (g : GridData) (by : Arrival) (u v : Cell) (d : Dir) → IsAllowedMove g by u v d
    → Leads g u v d
allowed_leads g by u v d m = grind (arith, nat_tests, and_both, leads_from, one_of)
