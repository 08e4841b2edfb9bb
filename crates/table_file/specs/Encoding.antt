-- The bytes of a map's tables.
use Rattle.std.specs.Prelude.{◌≡◌, ℕ, ◌+◌, ◌-◌, ◌*◌, ◌/◌, ◌%◌, ℤ, pos, negsuc, List, [], ◌∷◌, ◌++◌, flat_map}
use Rattle.std.specs.Prelude.{codes, if◌then◌else◌}
use Rattle.grid_moves.specs.declared.Corner.{Corner}
use Rattle.grid_moves.specs.declared.Corner.TheVariants.{Never, One, Both}
use Rattle.grid_moves.specs.declared.Ground.TheVariants.{Water}
use Rattle.grid_moves.specs.Grid.{GridData, is_ground}
use Rattle.plus_tables.specs.Entry.{table_entry}
use Rattle.table_file.specs.Order.{Spot, spots_of}

-- how many of the two cells beside a diagonal move may be blocked
abbrev pub corner_byte : Corner → ℕ
corner_byte Never = 0
corner_byte One = 1
corner_byte Both = 2

-- a number below 2^16 in two bytes, the lower first
abbrev pub two_bytes : ℕ → List ℕ
two_bytes n = n % 256 ∷ n / 256 % 256 ∷ []

-- a whole number from -2^15 to 2^15 - 1 as two's complement, below 2^16
abbrev pub twos_complement : ℤ → ℕ
twos_complement (pos n) = n
twos_complement (negsuc n) = 65535 - n

-- the two bytes of an entry
abbrev pub entry_bytes : ℤ → List ℕ
entry_bytes entry = two_bytes (twos_complement entry)

-- the first 13 bytes: a name, the corner rule, the width and the height
abbrev pub head_bytes : Corner → ℕ → ℕ → List ℕ
head_bytes corner width height =
    codes "JPSPLUS1" ++ corner_byte corner ∷ (two_bytes width ++ two_bytes height)

-- the table entry of the land grid or of the water grid
abbrev pub entry_for : GridData → GridData → Spot → ℤ
entry_for land water s = table_entry (if is_ground Water s.layer then water else land) s.cell s.dir

-- two grids have the sides and the corner rule of one map
pub record AreOfOneMap (land water : GridData) : Type 0 where
  pub width : water.width ≡ land.width
  pub height : water.height ≡ land.height
  pub corner : water.corner ≡ land.corner

-- the encoding of the tables of a land grid and a water grid under a corner rule
unfoldable pub encoding : Corner → GridData → GridData → List ℕ
encoding corner land water = head_bytes corner land.width land.height
    ++ flat_map (λ s. entry_bytes (entry_for land water s)) (spots_of land.width land.height)

-- the number of its bytes
abbrev pub size_of : GridData → ℕ
size_of land = 13 + 32 * (land.height * land.width)
