-- Bits of numbers.
use Rattle.std.specs.Prelude.{◌≡◌, ℕ, Bool, true, false, nat_eq, refl, [], ◌∷◌}
use Rattle.std.specs.Int.{bit_at}

-- bit j of a number, from the lowest, is set
abbrev pub is_set : ℕ → ℕ → Bool
is_set n j = nat_eq (bit_at n j) 1

-- 11 is 1011 in twos
pub bits_of_eleven : is_set 11 0 ∷ is_set 11 1 ∷ is_set 11 2 ∷ is_set 11 3 ∷ is_set 11 4 ∷ []
    ≡ true ∷ true ∷ false ∷ true ∷ false ∷ []
bits_of_eleven = refl
