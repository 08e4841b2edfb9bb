-- The numbers of cells.
use Rattle.std.proofs.Common.{◌≡◌, ◌≢◌, ◌⊎◌, ℕ, ◌+◌, ◌*◌, ◌<◌, arith, ap, true}
use Rattle.std.proofs.lemmas.Bool.Decides.{nat_tests}
use Rattle.grid_moves.specs.declared.Cell.{Cell}
use Rattle.grid_moves.specs.Grid.{GridData, cell_number, is_free, is_inside}
use Rattle.grid_moves.proofs.Legal.{free_inside, is_same-cell, is_same-itself, same_cell}

-- two places in rows of w are one place
pub one_place : (w x y z t : ℕ) → x < w → z < w → y * w + x ≡ t * w + z → (y ≡ t) × (x ≡ z)
one_place w x y z t h k e =
    let l : y ≡ t = rows w x y z t h k e in (l, (let m : y * w ≡ t * w = ap (λ n. n * w) l in omega arith))
  where
    rows : (w x y z t : ℕ) → x < w → z < w → y * w + x ≡ t * w + z → y ≡ t
    rows w x y z t h k e = grind arith

-- cells on the map with one number are one cell
pub one_cell : (w : ℕ) (c d : Cell) → c.x < w → d.x < w → cell_number w c ≡ cell_number w d → c ≡ d
one_cell w c d h k e = let p = one_place w c.x c.y d.x d.y h k e in same_cell c d p.1 p.0

-- the number of a cell on the map is below the number of cells
pub number_below : (w h : ℕ) (c : Cell) → c.x < w → c.y < h → cell_number w c < h * w
number_below w h c p q = grind arith

-- a cell on the map stands in one of its columns and rows, and what stands there lies on it
pub inside_is : (g : GridData) (c : Cell) → is_inside g c ≡ true → (c.x < g.width) × (c.y < g.height)
inside_is g c i = (grind (arith, nat_tests), grind (arith, nat_tests))

pub inside_from : (g : GridData) (c : Cell) → c.x < g.width → c.y < g.height → is_inside g c ≡ true
inside_from g c x y = grind (arith, nat_tests)

-- of a cell on the map, and of a free one
pub inside_below : (g : GridData) (c : Cell) → is_inside g c ≡ true
    → cell_number g.width c < g.height * g.width
inside_below g c i = let p = inside_is g c i in number_below g.width g.height c p.0 p.1

pub free_below : (g : GridData) (c : Cell) → is_free g c ≡ true → cell_number g.width c < g.height * g.width
free_below g c f = let p = free_inside g c f in number_below g.width g.height c p.0 p.1

-- a column and a row on the map
pub record IsOn (g : GridData) (c : Cell) : Type 0 where
  pub column : c.x < g.width
  pub row : c.y < g.height

pub is_on : (g : GridData) (c : Cell) → is_inside g c ≡ true → IsOn g c
is_on g c e = record { column = grind (arith, nat_tests); row = grind (arith, nat_tests) }

pub on_inside : (g : GridData) (c : Cell) → IsOn g c → is_inside g c ≡ true
on_inside g c on = let x = on.column in let y = on.row in grind (arith, nat_tests)

pub free_on : (g : GridData) (c : Cell) → is_free g c ≡ true → IsOn g c
free_on g c e = let i = free_inside g c e in record { column = i.0; row = i.1 }

-- a cell is this one, or its number is another
pub same_or_apart : (g : GridData) (c d : Cell) → IsOn g c → IsOn g d
    → (c ≡ d) ⊎ (cell_number g.width c ≢ cell_number g.width d)
same_or_apart g c d h1 h2 = grind (arith, nat_tests, is_same-cell, one_cell, is_same-itself)
