-- An edited grid.
use Rattle.std.proofs.Common.{◌≡◌, ◌≢◌, ◌<◌, length, Bool, true, false, refl, ap, ◌∙◌, ◌&&◌}
use Rattle.std.proofs.Common.{get_or-set_other, get_or-set_same, length-set}
use Rattle.grid_moves.specs.declared.Cell.{Cell}
use Rattle.grid_moves.specs.Grid.{GridData, IsGrid, is_free, is_inside, cell_number, grid_with}
use Rattle.grid_moves.proofs.Places.{inside_below, inside_is, one_cell}

-- the edited cell is free as asked
pub is_free-with_same : (g : GridData) (c : Cell) (free : Bool) → IsGrid g → is_inside g c ≡ true
    → is_free (grid_with g c free) c ≡ free
is_free-with_same g c free grid inside =
    let below : cell_number g.width c < length g.free = rw grid.whole (inside_below g c inside) in
    rw (inside, get_or-set_same g.free (cell_number g.width c) free false below) refl

-- any other cell stays as it was
pub is_free-with_other : (g : GridData) (c d : Cell) (free : Bool) → is_inside g c ≡ true → d ≢ c
    → is_free (grid_with g c free) d ≡ is_free g d
is_free-with_other g c d free inside other = by_test (is_inside g d) refl
  where
    by_test : (test : Bool) → is_inside g d ≡ test → is_free (grid_with g c free) d ≡ is_free g d
    by_test false e = rw e refl
    by_test true e =
        let apart : cell_number g.width d ≢ cell_number g.width c =
        λ same. other (one_cell g.width d c (inside_is g d e).0 (inside_is g c inside).0 same) in
        ap (λ (b : Bool). is_inside g d && b)
        (get_or-set_other g.free (cell_number g.width c) (cell_number g.width d) free false apart)

-- an edited grid is a grid of the same sides
pub is_grid-with : (g : GridData) (c : Cell) (free : Bool) → IsGrid g → IsGrid (grid_with g c free)
is_grid-with g c free grid =
    record { sides = grid.sides; whole = length-set g.free (cell_number g.width c) free ∙ grid.whole }
