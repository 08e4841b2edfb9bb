-- Numbers of cells, and cells of numbers.
use Rattle.std.proofs.Common.{◌≡◌, ℕ, ◌+◌, ◌*◌, ◌/◌, ◌%◌, ◌<◌, ◌≤◌, arith, refl, true, zero, suc}
use Rattle.std.specs.Prelude.{nat_lt}
use Rattle.std.proofs.Math.Nat.{div-add-mod, div-lt_iff_lt-mul, mod-lt, mul-le-mul_right}
use Rattle.std.proofs.lemmas.Bool.{lt-ltb}
use Rattle.std.proofs.lemmas.Bool.Decides.{nat_tests}
use Rattle.std.proofs.lemmas.Nat.{div-mul-add, mod-mul-add}
use Rattle.grid_moves.specs.declared.Cell.{Cell}
use Rattle.grid_moves.specs.Grid.{GridData, IsGrid, cell_number, cell_numbered, is_inside}
use Rattle.grid_moves.proofs.Legal.{same_cell}

-- some column is there where a number is
pub some_column : (w h n : ℕ) → n < h * w → 0 < w
some_column zero h n l = let none : h * 0 ≡ 0 = omega arith in absurd (omega (arith, none, l))
some_column (suc w) h n l = omega arith

pub number_is : (width k : ℕ) → cell_number width (cell_numbered width k) ≡ k
number_is width k = by_sum (k / width) (k % width) (div-add-mod k width)
  where
    by_sum : (y x : ℕ) → width * y + x ≡ k → y * width + x ≡ k
    by_sum y x e = omega arith

-- the numbers of a map are few
pub few_numbers : (g : GridData) → IsGrid g → (k width : ℕ) → width ≡ g.width → k < g.height * g.width
    → k < 65536 * width
few_numbers g whole k width same below =
    let low = whole.sides.low in
    let most : g.height * g.width ≤ 4096 * g.width = mul-le-mul_right g.width low in
    omega arith

module _ (g : GridData) where
  pub numbered_is : (t : Cell) → is_inside g t ≡ true → cell_numbered g.width (cell_number g.width t) ≡ t
  numbered_is t inside =
      let x : t.x < g.width = grind (arith, nat_tests) in
      same_cell (cell_numbered g.width (cell_number g.width t)) t (mod-mul-add t.y g.width t.x x)
      (div-mul-add t.y g.width t.x x)

  pub lies_inside : (k : ℕ) → k < g.height * g.width → is_inside g (cell_numbered g.width k) ≡ true
  lies_inside k below =
      let some : 0 < g.width = some_column g.width g.height k below in
      let near : nat_lt (k % g.width) g.width ≡ true = lt-ltb (k % g.width) g.width (mod-lt k some) in
      let low : nat_lt (k / g.width) g.height ≡ true =
      lt-ltb (k / g.width) g.height ((div-lt_iff_lt-mul some).1 below) in
      rw (near, low) refl
