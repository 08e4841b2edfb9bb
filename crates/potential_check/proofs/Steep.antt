-- Heights as arguments of calls.
use Rattle.std.proofs.Common.{arith}
use Rattle.std.proofs.lemmas.Bool.Decides.{nat_tests}
use Rattle.std.proofs.Common.{◌≡◌, w64, to_z, of_z}
use Rattle.std.specs.Prelude.{Option, ℤ, FitsSigned}
use Rattle.std.proofs.lemmas.Int.{to_z-of_z}
use Rattle.grid_moves.specs.declared.Cell.{Cell}
use Rattle.potential_check.specs.Rising.{steep_move}

-- a height that fits is passed as it is
pub passed : (u : Cell) (from to : ℤ) (given ahead result : Option Cell) → FitsSigned w64 from
    → FitsSigned w64 to
    → result ≡ steep_move u (to_z w64 (of_z w64 from)) (to_z w64 (of_z w64 to)) given → given ≡ ahead
    → result ≡ steep_move u from to ahead
passed u from to given ahead result h1 h2 h3 h4 = grind (arith, nat_tests, to_z-of_z)
