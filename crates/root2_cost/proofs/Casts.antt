-- Whole numbers as a signed word of 64 bits keeps them.
use Rattle.std.proofs.Common.{◌≡◌, ◌<◌, ◌^◌, refl, arith}
use Rattle.std.specs.Prelude.{ℤ, ◌-ℤ◌}
use Rattle.std.specs.Int.RustNames.{FitsSigned, unsigned_abs}
use Rattle.std.proofs.lemmas.Int.{ints, fits_signed_from_abs, to_z-of_z}
use mir.Val.{of_z, to_z}
use mir.Syntax.{w64}

kept : (x : ℤ) → unsigned_abs x < 2 ^ 62 → to_z w64 (of_z w64 x) ≡ x
kept x small = to_z-of_z w64 x (fits_signed_from_abs w64 x (omega (arith, small)))

-- two parts below 2^61 in amount
module _ (x y : ℤ) (in_x : unsigned_abs x < 2 ^ 61) (in_y : unsigned_abs y < 2 ^ 61) where
  read : to_z w64 (of_z w64 x) -ℤ to_z w64 (of_z w64 y) ≡ x -ℤ y
  read = rw (kept x (omega (arith, in_x)), kept y (omega (arith, in_y))) refl

  pub difference_small : unsigned_abs (x -ℤ y) < 2 ^ 62
  difference_small = omega (arith, ints, in_x, in_y)

  pub difference_fits : FitsSigned w64 (to_z w64 (of_z w64 x) -ℤ to_z w64 (of_z w64 y))
  difference_fits = rw read (fits_signed_from_abs w64 (x -ℤ y) (omega (arith, difference_small)))

  pub difference_kept : to_z w64 (of_z w64 (to_z w64 (of_z w64 x) -ℤ to_z w64 (of_z w64 y))) ≡ x -ℤ y
  difference_kept = rw read (kept (x -ℤ y) difference_small)
