use Rattle.std.proofs.Common.{◌≡◌, ◌*◌, drop}
use Rattle.table_file.specs.Reading.{first_other}
use Rattle.table_file.proofs.loading.first_other.Given as goal

-- what is to be found is found in what is left
abbrev pub invariant-loop-at : goal.invariant-loop-at
invariant-loop-at l =
    first_other l.at (drop l.at l.entries) (drop (2 * l.at) l.bytes) ≡ first_other 0 l.entries l.bytes
