-- Walks one after the other: what is less of the first is less of both.
use Rattle.std.proofs.Common.{◌≡◌, ◌+◌, ◌*◌, arith, ap, List, [], ◌∷◌, ◌++◌, length}
use Rattle.std.proofs.lemmas.Bool.Decides.{nat_tests}
use Rattle.std.proofs.lemmas.Grind.{common_steps}
use Rattle.std.proofs.Common.{length-append}
use Rattle.root2_cost.specs.declared.Cost.{Cost}
use Rattle.grid_moves.specs.declared.Cell.{Cell}
use Rattle.grid_moves.specs.Walk.{cost_of, last_of}
use Rattle.grid_moves.proofs.Walks.{cost-joined}
use Rattle.pruning.specs.Facts.{diagonal_places, IsSmaller, shorter, straighter, earlier}

diagonals-joined : (x : Cell) (cells more : List Cell)
    → (cost_of (x ∷ (cells ++ more))).b ≡ (cost_of (x ∷ cells)).b + (cost_of (last_of x cells ∷ more)).b
diagonals-joined x cells more = ap (λ (c : Cost). c.b) (cost-joined x cells more)

-- the places of the diagonal moves of the second walk are those after the first
places-joined : (x : Cell) (cells more : List Cell)
    → diagonal_places (x ∷ (cells ++ more)) ≡ diagonal_places (x ∷ cells)
    + length cells * (cost_of (last_of x cells ∷ more)).b + diagonal_places (last_of x cells ∷ more)
places-joined x [] more = omega arith
places-joined x (c ∷ cells) more =
    let a = places-joined c cells more in let b = diagonals-joined x (c ∷ cells) more in omega arith

-- with the same walk after both
pub IsSmaller-joined : (x : Cell) (es ds more : List Cell) → last_of x es ≡ last_of x ds
    → IsSmaller (x ∷ es) (x ∷ ds) → IsSmaller (x ∷ (es ++ more)) (x ∷ (ds ++ more))
IsSmaller-joined x es ds more e (shorter l) = grind (arith, nat_tests, common_steps)
IsSmaller-joined x es ds more e (straighter l b) = straighter
    (rw (length-append es more, length-append ds more) (omega arith))
    (rw (diagonals-joined x es more, diagonals-joined x ds more, e) (omega arith))
IsSmaller-joined x es ds more e (earlier l b p) = earlier
    (rw (length-append es more, length-append ds more) (omega arith))
    (rw (diagonals-joined x es more, diagonals-joined x ds more, e) (omega arith))
    (let n : length es ≡ length ds = omega arith in
    let same : length es * (cost_of (last_of x ds ∷ more)).b ≡ length ds * (cost_of (last_of x ds ∷ more)).b =
    ap (λ n. n * (cost_of (last_of x ds ∷ more)).b) n in
    rw (places-joined x es more, places-joined x ds more, e) (omega arith))

-- with the same move before both
pub IsSmaller-cons : (x c : Cell) (es ds : List Cell) → IsSmaller (c ∷ es) (c ∷ ds)
    → IsSmaller (x ∷ c ∷ es) (x ∷ c ∷ ds)
IsSmaller-cons x c es ds h1 = grind arith
