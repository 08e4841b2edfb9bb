use Rattle.std.proofs.Common.{◌≡◌, ◌*◌, take, flat_map, length}
use Rattle.table_file.specs.Encoding.{entry_bytes}
use Rattle.table_file.proofs.writing.fill_entries.Given as goal

-- the bytes of the entries behind are there
abbrev pub invariant-loop-at : goal.invariant-loop-at
invariant-loop-at l =
    (length l.bytes ≡ 2 * length l.entries)
    × (take (2 * l.at) l.bytes ≡ flat_map entry_bytes (take l.at l.entries))
