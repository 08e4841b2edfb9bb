-- The index of a search: where the node of a state is found. No public clause cites this module.
use Rattle.std.specs.Prelude.{◌≡◌, ℕ, zero, suc, ◌+◌, ◌*◌, ◌/◌, ◌≤◌, ◌<◌, nat_eq, nat_lt, List, [], ◌∷◌}
use Rattle.std.specs.Prelude.{length, Option, Some, None, Bool, false, if◌then◌else◌, slice_get}
use Rattle.std.specs.Prelude.{slice_index_or, ◌⊎◌}
use Rattle.std.specs.Option.{option_map_or}
use Rattle.grid_moves.specs.Grid.{cell_number}
use Rattle.best_first.specs.declared.index.Record.{Record}
use Rattle.best_first.specs.declared.node.Node.{Node}
use Rattle.best_first.specs.declared.state.Layout.{Layout}
use Rattle.best_first.specs.declared.state.Layout.TheVariants.{ByCell, ByArrival}
use Rattle.best_first.specs.State.{arrival_number, state_of_place}
use Rattle.best_first.specs.Node.{state_of}
use Rattle.best_first.specs.Space.{IsPlaced, HasRoom}

-- an entry for what may be found: 0, or the number and one
abbrev pub entry_for : Option ℕ → ℕ
entry_for None = 0
entry_for (Some id) = suc id

-- a cell and an arrival by their numbers, in one number
abbrev pub tag_of : ℕ → ℕ → ℕ
tag_of cell arrival = cell * 16 + arrival

-- the entry with one record before, which has the tag or not
abbrev pub entry_before : Bool → ℕ → ℕ
entry_before has zero = if has then 1 else 0
entry_before has (suc r) = suc (suc r)

-- the entry that records have for a tag: the number of the last record with it and one, or 0
abbrev pub entry_of : List Record → ℕ → ℕ
entry_of [] tag = 0
entry_of (x ∷ records) tag = entry_before (nat_eq x.tag tag) (entry_of records tag)

-- the entry for a cell and an arrival, by their numbers: a cell's only state has the arrival 8 of a start
abbrev pub entry_in : Layout → List ℕ → List Record → ℕ → ℕ → ℕ
entry_in ByCell heads records cell arrival = if nat_eq arrival 8 then slice_index_or heads cell 0 else 0
entry_in ByArrival heads records cell arrival =
    if nat_lt arrival 9 then entry_of records (tag_of cell arrival) else 0

-- an entry leads to a record of this cell, which is that of the number q or a later one
pub record LeadsBack (records : List Record) (cell q entry : ℕ) : Type 0 where
  pub r : ℕ
  pub entry_is : entry ≡ suc r
  pub later : q ≤ r
  pub found : Record
  pub found_is : slice_get records r ≡ Some found
  pub cell_is : found.tag / 16 ≡ cell

-- each record leads back to all earlier ones of its cell, and to no record of another cell
pub record AreLinked (records : List Record) : Type 0 where
  pub lead : (q r : ℕ) (x y : Record) → slice_get records q ≡ Some x → slice_get records r ≡ Some y
      → q < r → x.tag / 16 ≡ y.tag / 16 → LeadsBack records (y.tag / 16) q y.earlier
  pub earlier : (r : ℕ) (y : Record) → slice_get records r ≡ Some y → y.earlier ≤ r
  pub own : (r : ℕ) (y : Record) → slice_get records r ≡ Some y
      → (y.earlier ≡ 0) ⊎ LeadsBack records (y.tag / 16) 0 y.earlier

-- the head of a cell leads back to all records of the cell
abbrev pub IsHead : List Record → ℕ → ℕ → Type 0
IsHead records cell head = (q : ℕ) (x : Record) → slice_get records q ≡ Some x → x.tag / 16 ≡ cell
    → LeadsBack records cell q head

-- records are linked, and heads lead to them; a head whose cell has no record may be any number
pub record AreRecords (heads : List ℕ) (records : List Record) : Type 0 where
  pub linked : AreLinked records
  pub heads_lead : (cell : ℕ) → IsHead records cell (slice_index_or heads cell 0)

abbrev pub AreHeads : Layout → List ℕ → List Record → Type 0
AreHeads ByCell heads records = Unit {0}
AreHeads ByArrival heads records = AreRecords heads records

-- a head where it leads to a record of the cell, and else 0
abbrev pub latest_of : ℕ → List Record → ℕ → ℕ
latest_of zero records cell = 0
latest_of (suc r) records cell =
    if option_map_or (λ x. nat_eq (x.tag / 16) cell) (slice_get records r) false then suc r else 0

-- how many records there are for so many nodes
abbrev pub records_for : Layout → ℕ → ℕ
records_for ByCell nodes = 0
records_for ByArrival nodes = nodes

-- the node of that number has a state of this cell and this arrival, by their numbers
pub record IsNodeAt (layout : Layout) (width : ℕ) (nodes : List Node) (cell arrival id : ℕ) : Type 0 where
  pub node : Node
  pub node_is : slice_get nodes id ≡ Some node
  pub cell_is : cell_number width (state_of layout node).cell ≡ cell
  pub arrival_is : arrival_number (state_of layout node).arrival ≡ arrival

-- the number of a node's cell
abbrev pub cell_of_node : ℕ → List Node → ℕ → ℕ
cell_of_node width nodes id =
    option_map_or (λ n. cell_number width (state_of_place n.place).cell) (slice_get nodes id) 0

-- a head but 0 leads to a number from `first` on and below `count`, which tells the head's cell
abbrev pub AreLed : (ℕ → ℕ) → ℕ → ℕ → List ℕ → Type 0
AreLed cell_of first count heads = (cell r : ℕ) → slice_get heads cell ≡ Some (suc r)
    → (first ≤ r) × (r < count) × (cell_of r ≡ cell)

-- the index is exact: its entries lead to each node, and nowhere else
pub record IsExact (layout : Layout) (width : ℕ) (nodes : List Node) (heads : List ℕ)
    (records : List Record) : Type 0 where
  pub heads_are : AreHeads layout heads records
  pub each : length records ≡ records_for layout (length nodes)
  pub inside : (id : ℕ) (n : Node) → slice_get nodes id ≡ Some n
      → IsPlaced width (length heads) (state_of layout n).cell
  pub found : (id : ℕ) (n : Node) → slice_get nodes id ≡ Some n
      → entry_in layout heads records (cell_number width (state_of layout n).cell)
      (arrival_number (state_of layout n).arrival) ≡ suc id
  pub nowhere_else : (cell arrival id : ℕ) → entry_in layout heads records cell arrival ≡ suc id
      → IsNodeAt layout width nodes cell arrival id

-- all heads are 0
abbrev pub AreBlank : List ℕ → Type 0
AreBlank heads = (cell r : ℕ) → slice_get heads cell ≡ Some (suc r) → ⊥

-- heads lead nowhere where there are no records: only those that lead to nodes themselves have to be 0
abbrev pub AreReset : Layout → List ℕ → Type 0
AreReset ByCell heads = AreBlank heads
AreReset ByArrival heads = Unit {0}

-- one entry was changed
pub record IsPut (layout : Layout) (heads later_heads : List ℕ) (records later_records : List Record)
    (cell arrival entry : ℕ) : Type 0 where
  pub here : entry_in layout later_heads later_records cell arrival ≡ entry
  pub others : (c a : ℕ) → ((c ≡ cell) × (a ≡ arrival) → ⊥)
      → entry_in layout later_heads later_records c a ≡ entry_in layout heads records c a
  pub heads_are : AreHeads layout later_heads later_records
  pub as_many : length later_heads ≡ length heads

-- the parts of a space are in order: the index is exact, over at most 2^24 cells
pub record AreParts (layout : Layout) (width : ℕ) (nodes : List Node) (heads : List ℕ)
    (records : List Record) : Type 0 where
  pub exact : IsExact layout width nodes heads records
  pub few_cells : length heads ≤ 16777216

-- a space of such parts is in order, and has memory for as many nodes as it tells
pub record IsSpace (layout : Layout) (width fits spare capacity : ℕ) (nodes : List Node) (heads : List ℕ)
    (records : List Record) : Type 0 where
  pub parts : AreParts layout width nodes heads records
  pub room : HasRoom layout fits (length nodes) spare capacity
