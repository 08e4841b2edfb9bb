-- What the test of a legal move says.
use Rattle.std.proofs.Common.{◌≡◌, ℕ, ◌+◌, ◌<◌, ◌≤◌, arith, Bool, true, false, refl, ap, ◌∙◌, ◌&&◌, ◌||◌}
use Rattle.std.proofs.lemmas.Bool.Decides.{nat_tests}
use Rattle.grid_moves.specs.declared.Cell.{Cell}
use Rattle.grid_moves.specs.declared.Corner.{Corner}
use Rattle.grid_moves.specs.declared.Corner.TheVariants.{Never, One, Both}
use Rattle.grid_moves.specs.Grid.{GridData, is_free}
use Rattle.grid_moves.specs.Move.{is_legal, is_same, are_neighbours, corner_of, is_passable, may_cut}

pub record IsLegal (g : GridData) (u v : Cell) : Type 0 where
  pub source : is_free g u ≡ true
  pub target : is_free g v ≡ true
  pub passes : is_passable g.corner (is_free g (corner_of u v)) (is_free g (corner_of v u)) ≡ true
  pub x_low : u.x ≤ v.x + 1
  pub x_high : v.x ≤ u.x + 1
  pub y_low : u.y ≤ v.y + 1
  pub y_high : v.y ≤ u.y + 1
  pub differ : (u.x ≡ v.x) → (u.y ≡ v.y) → ⊥

pub and_both : (a b : Bool) → (a && b) ≡ true → (a ≡ true) × (b ≡ true)
and_both true b e = (refl, e)
and_both false b e = absurd (cc)

-- between two free cells every rule lets a move pass
pub passable-both : (rule : Corner) → is_passable rule true true ≡ true
passable-both Never = refl
passable-both One = refl
passable-both Both = refl

-- where no corner may be cut both cells are free
pub passable-uncut : (rule : Corner) → may_cut rule ≡ false → (a b : Bool) → is_passable rule a b ≡ (a && b)
passable-uncut Never e a b = refl
passable-uncut One e a b = absurd (cc)
passable-uncut Both e a b = absurd (cc)

-- and where one may be, one that is free is enough
pub passable-cut : (rule : Corner) → may_cut rule ≡ true → (a b : Bool) → (a || b) ≡ true
    → is_passable rule a b ≡ true
passable-cut Never e a b h = absurd (cc)
passable-cut One e a b h = h
passable-cut Both e a b h = refl

-- by whether a corner may be cut
pub by_cut : {P : Type 0} (rule : Corner) → (may_cut rule ≡ false → P) → (may_cut rule ≡ true → P) → P
by_cut Never f k = f refl
by_cut One f k = k refl
by_cut Both f k = k refl

-- what the test of neighbours says
pub record AreNeighbours (u v : Cell) : Type 0 where
  pub x_low : u.x ≤ v.x + 1
  pub x_high : v.x ≤ u.x + 1
  pub y_low : u.y ≤ v.y + 1
  pub y_high : v.y ≤ u.y + 1
  pub differ : (u.x ≡ v.x) → (u.y ≡ v.y) → ⊥

pub neighbours_are : (u v : Cell) → are_neighbours u v ≡ true → AreNeighbours u v
neighbours_are u v h = record {
  x_low = grind (arith, nat_tests);
  x_high = grind (arith, nat_tests);
  y_low = grind (arith, nat_tests);
  y_high = grind (arith, nat_tests);
  differ = λ e f. grind (arith, nat_tests);
}

pub legal_is : (g : GridData) (u v : Cell) → is_legal g u v ≡ true → IsLegal g u v
legal_is g u v h =
    let passes : Bool = is_passable g.corner (is_free g (corner_of u v)) (is_free g (corner_of v u)) in
    let three = and_both (are_neighbours u v && is_free g u && is_free g v) passes h in
    let two = and_both (are_neighbours u v && is_free g u) (is_free g v) three.0 in
    let one = and_both (are_neighbours u v) (is_free g u) two.0 in
    let near : AreNeighbours u v = neighbours_are u v one.0 in
    record {
      source = one.1;
      target = two.1;
      passes = three.1;
      x_low = near.x_low;
      x_high = near.x_high;
      y_low = near.y_low;
      y_high = near.y_high;
      differ = near.differ;
    }

pub is_legal-from : (g : GridData) (u v : Cell) → IsLegal g u v → is_legal g u v ≡ true
is_legal-from g u v l =
    let near : are_neighbours u v ≡ true = near_from l.x_low l.x_high l.y_low l.y_high l.differ in
    rw (near, l.source, l.target, l.passes) refl
  where
    near_from : u.x ≤ v.x + 1 → v.x ≤ u.x + 1 → u.y ≤ v.y + 1 → v.y ≤ u.y + 1
        → ((u.x ≡ v.x) → (u.y ≡ v.y) → ⊥) → are_neighbours u v ≡ true
    near_from a b c d n = grind (arith, nat_tests)

-- a free cell lies inside
pub free_inside : (g : GridData) (c : Cell) → is_free g c ≡ true → (c.x < g.width) × (c.y < g.height)
free_inside g c h = (grind (arith, nat_tests), grind (arith, nat_tests))

-- two cells with the same column and row are one
pub same_cell : (c d : Cell) → c.x ≡ d.x → c.y ≡ d.y → c ≡ d
same_cell c d e f =
    let g : c ≡ record { x = d.x; y = c.y } =
    ap (λ (n : ℕ). let u : Cell = record { x = n; y = c.y } in u) e in
    g ∙ ap (λ (n : ℕ). let u : Cell = record { x = d.x; y = n } in u) f

pub is_same-cell : (c d : Cell) → is_same c d ≡ true → c ≡ d
is_same-cell c d h = same_cell c d (grind (arith, nat_tests)) (grind (arith, nat_tests))

pub is_same-itself : (c : Cell) → is_same c c ≡ true
is_same-itself c = grind (arith, nat_tests)
