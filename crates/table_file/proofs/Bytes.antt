-- The bytes of numbers.
use Rattle.std.proofs.Common.{arith}
use Rattle.std.proofs.lemmas.Bool.Decides.{nat_tests}
use Rattle.std.proofs.Common.{◌≡◌, ℕ, List, [], ◌∷◌}
use Rattle.std.specs.Prelude.{ℤ, slice_index_or}
use Rattle.table_file.specs.Encoding.{entry_bytes}

-- two bytes that are those of a number are its bytes, one after the other
pub taken_apart : (bytes : List ℕ) (sent z : ℤ) → bytes ≡ entry_bytes sent → sent ≡ z
    → slice_index_or bytes 0 0 ∷ slice_index_or bytes 1 0 ∷ [] ≡ entry_bytes z
taken_apart bytes sent z is same = grind (arith, nat_tests)
