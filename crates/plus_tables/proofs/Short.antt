-- Entries are short: no run is longer than the sides together.
use Rattle.std.proofs.lemmas.Bool.Decides.{nat_tests}
use Rattle.std.proofs.Common.{◌≡◌, ℕ, ◌+◌, ◌≤◌, arith, w16, to_z, of_z}
use Rattle.std.specs.Prelude.{ℤ, pos, neg_ℤ, Some}
use Rattle.std.proofs.lemmas.Int.{ints}
use Rattle.grid_moves.specs.declared.Cell.{Cell}
use Rattle.grid_moves.specs.declared.Dir.{Dir}
use Rattle.grid_moves.specs.Grid.{GridData, IsGrid}
use Rattle.pruning.specs.First.{first_mark}
use Rattle.pruning.proofs.Runs.{run_short}
use Rattle.plus_tables.specs.Entry.{table_entry}
use Rattle.plus_tables.specs.Tables.{IsShort}
use Rattle.plus_tables.proofs.Following.{first_mark-least}
use Rattle.pruning.proofs.Lengths.{run_length-few}

-- a first mark lies on the run
pub first_mark-few : (g : GridData) (x : Cell) (d : Dir) (k : ℕ) → first_mark g x d ≡ Some k
    → k ≤ g.width + g.height
first_mark-few g x d k e =
    let holds = (first_mark-least g x d k e).holds in grind (arith, nat_tests, run_short)

short_mark : (k : ℕ) → k ≤ 8192 → IsShort (pos k)
short_mark k h = record { low = omega (arith, ints); high = omega (arith, ints) }

short_run : (n : ℕ) → n ≤ 8192 → IsShort (neg_ℤ (pos n))
short_run n h = record { low = omega (arith, ints); high = omega (arith, ints) }

pub table_entry-short : (g : GridData) → IsGrid g → (c : Cell) (d : Dir) → IsShort (table_entry g c d)
table_entry-short g h c d = grind (arith, nat_tests, short_run, run_length-few, short_mark, first_mark-few)

-- a short number fits its type
pub same_value : (entry value : ℤ) → IsShort entry → value ≡ entry → to_z w16 (of_z w16 value) ≡ entry
same_value entry value short is = grind (arith, nat_tests)

-- so an entry is the same as it is stored
pub entry_stored : (g : GridData) (c : Cell) (d : Dir) → IsGrid g
    → to_z w16 (of_z w16 (table_entry g c d)) ≡ table_entry g c d
entry_stored g c d h = grind (arith, nat_tests, same_value, table_entry-short)

pub short_value : (entry value : ℤ) → IsShort entry → value ≡ entry → IsShort (to_z w16 (of_z w16 value))
short_value entry value short is = rw (same_value entry value short is) short
