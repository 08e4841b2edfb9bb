-- Why a text is not the encoding of a map's tables.
use Rattle.std.specs.Prelude.{◌≡◌, ◌≢◌, ℕ, ◌*◌, ◌<◌, ℤ, not, slice_get, nat_eq, List, [], ◌∷◌, length, take}
use Rattle.std.specs.Prelude.{drop, Option, Some, None, Result, Ok, Err, option_map, if◌then◌else◌}
use Rattle.std.specs.Option.{option_or}
use Rattle.std.specs.Str.{bytes_eq}
use Rattle.grid_moves.specs.Grid.{GridData}
use Rattle.table_file.specs.declared.fault.TableFault.{TableFault}
use Rattle.table_file.specs.declared.fault.TableFault.TheVariants.{Head, Length, Entry, NoMemory}
use Rattle.table_file.specs.Encoding.{entry_bytes, entry_for, head_bytes, size_of}
use Rattle.table_file.specs.Order.{Spot, spot, spots_of}

-- what the first entry is for, in this order, whose two bytes are others than the next two
abbrev pub first_wrong : (Spot → ℤ) → List Spot → List ℕ → Option Spot
first_wrong entry [] bytes = None
first_wrong entry (s ∷ spots) bytes =
    if bytes_eq (take 2 bytes) (entry_bytes (entry s)) then first_wrong entry spots (drop 2 bytes)
    else Some s

abbrev pub entry_fault : Spot → TableFault
entry_fault s = Entry s.layer s.cell s.dir

-- F1: the first 13 bytes are others; F2: they are right, and the length is another
abbrev pub frame_fault : GridData → List ℕ → Option TableFault
frame_fault land text =
    if not (bytes_eq (head_bytes land.corner land.width land.height) (take 13 text)) then Some Head
    else if not (nat_eq (length text) (size_of land)) then Some Length
    else None

-- F3: both are right, and this is the first entry that differs
unfoldable pub table_fault_of : GridData → GridData → List ℕ → Option TableFault
table_fault_of land water text = option_or (frame_fault land text)
    (option_map entry_fault
    (first_wrong (entry_for land water) (spots_of land.width land.height) (drop 13 text)))

-- an answer tells whether a text has a fault, and which; for want of memory it tells nothing
abbrev pub Tells : {A : Type 0} → Result A TableFault → Option TableFault → Type 0
Tells (Ok answer) named = named ≡ None
Tells (Err fault) named = fault ≢ NoMemory → named ≡ Some fault

-- the two bytes at an entry's place are those of the entry
abbrev pub IsRightAt : (Spot → ℤ) → List ℕ → ℕ → Spot → Type 0
IsRightAt entry bytes place s = take 2 (drop (2 * place) bytes) ≡ entry_bytes (entry s)

-- the entry for s is not right there, and each one before it is
pub record IsFirstWrong (entry : Spot → ℤ) (spots : List Spot) (bytes : List ℕ) (s : Spot) : Type 0 where
  pub place : ℕ
  pub there : slice_get spots place ≡ Some s
  pub wrong : ¬ IsRightAt entry bytes place s
  pub before : (k : ℕ) (t : Spot) → k < place → slice_get spots k ≡ Some t → IsRightAt entry bytes k t

-- how a text differs from the encoding of two grids' tables: in the first 13 bytes; or else in its length;
-- or else in an entry, and this is the first one
abbrev pub Differs : GridData → GridData → List ℕ → TableFault → Type 0
Differs land water text Head = take 13 text ≢ head_bytes land.corner land.width land.height
Differs land water text Length = (take 13 text ≡ head_bytes land.corner land.width land.height)
    × (length text ≢ size_of land)
Differs land water text (Entry layer cell dir) =
    (take 13 text ≡ head_bytes land.corner land.width land.height)
    × (length text ≡ size_of land)
    × IsFirstWrong (entry_for land water) (spots_of land.width land.height) (drop 13 text)
    (spot layer cell dir)
Differs land water text NoMemory = ⊥
