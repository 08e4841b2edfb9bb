-- Entries and the bytes in which they are looked for.
use Rattle.std.specs.Prelude.{ℕ, ◌+◌, ◌/◌, ◌%◌, ℤ, List, [], ◌∷◌, take, drop, slice_index_or, Option, Some}
use Rattle.std.specs.Prelude.{None, if◌then◌else◌}
use Rattle.std.specs.Str.{bytes_eq}
use Rattle.grid_moves.specs.declared.Dir.TheVariants.{N}
use Rattle.grid_moves.specs.declared.Ground.{Ground}
use Rattle.grid_moves.specs.Move.{all_dirs}
use Rattle.grid_moves.specs.Grid.{cell_numbered}
use Rattle.table_file.specs.Encoding.{entry_bytes}
use Rattle.table_file.specs.Order.{Spot, spot}

-- the place, where the first has this one, of the first entry whose two bytes are others than the next two
abbrev pub first_other : ℕ → List ℤ → List ℕ → Option ℕ
first_other place [] bytes = None
first_other place (entry ∷ entries) bytes =
    if bytes_eq (take 2 bytes) (entry_bytes entry) then first_other (place + 1) entries (drop 2 bytes)
    else Some place

-- what the entry at a place, from 0, of a grid's tables is for
abbrev pub spot_of : Ground → ℕ → ℕ → Spot
spot_of layer width place =
    spot layer (cell_numbered width (place / 8)) (slice_index_or all_dirs (place % 8) N)
