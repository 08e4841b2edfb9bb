-- Worked rows: small maps, counted on squared paper.
use Rattle.std.specs.Prelude.{◌≡◌, ℕ, List, [], ◌∷◌, ◌++◌, codes, take, slice_set, replicate, Some, None}
use Rattle.std.specs.Prelude.{refl}
use Rattle.grid_moves.specs.declared.Corner.{Corner}
use Rattle.grid_moves.specs.declared.Corner.TheVariants.{Never, One, Both}
use Rattle.grid_moves.specs.declared.Dir.TheVariants.{E, NW}
use Rattle.grid_moves.specs.declared.Ground.{Ground}
use Rattle.grid_moves.specs.declared.Ground.TheVariants.{Land, Water}
use Rattle.grid_moves.specs.Grid.{GridData, layer_of}
use Rattle.table_file.specs.declared.fault.TableFault.TheVariants.{Head, Length, Entry}
use Rattle.table_file.specs.Encoding.{encoding, head_bytes}
use Rattle.table_file.specs.Faults.{table_fault_of}

abbrev zeros : ℕ → List ℕ
zeros n = replicate n 0

-- the map `...`
abbrev land : Corner → GridData
land corner = layer_of Land corner 3 1 (codes "...")

abbrev water : Corner → GridData
water corner = layer_of Water corner 3 1 (codes "...")

-- two moves to the east, one to each side, two to the west; no water
abbrev three_cells : List ℕ
three_cells = 74 ∷ 80 ∷ 83 ∷ 80 ∷ 76 ∷ 85 ∷ 83 ∷ 49 ∷ 0 ∷ 3 ∷ 0 ∷ 1 ∷ 0 ∷
    (zeros 4 ++ 254 ∷ 255 ∷ zeros 10
    ++ (zeros 4 ++ 255 ∷ 255 ∷ zeros 6 ++ 255 ∷ 255 ∷ zeros 2)
    ++ (zeros 12 ++ 254 ∷ 255 ∷ zeros 2)
    ++ zeros 48)

pub encoding_of_three : encoding Never (land Never) (water Never) ≡ three_cells
unfolding encoding
encoding_of_three = refl

pub right : table_fault_of (land Never) (water Never) three_cells ≡ None
unfolding table_fault_of
right = refl

pub wrong_entry : table_fault_of (land Never) (water Never) (slice_set three_cells 17 253)
    ≡ Some (Entry Land (record { x = 0; y = 0 }) E)
unfolding table_fault_of
wrong_entry = refl

pub wrong_last_entry : table_fault_of (land Never) (water Never) (slice_set three_cells 108 1)
    ≡ Some (Entry Water (record { x = 2; y = 0 }) NW)
unfolding table_fault_of
wrong_last_entry = refl

pub byte_missing : table_fault_of (land Never) (water Never) (take 108 three_cells) ≡ Some Length
unfolding table_fault_of
byte_missing = refl

pub byte_too_many : table_fault_of (land Never) (water Never) (three_cells ++ 0 ∷ []) ≡ Some Length
unfolding table_fault_of
byte_too_many = refl

pub head_alone : table_fault_of (land Never) (water Never) (take 13 three_cells) ≡ Some Length
unfolding table_fault_of
head_alone = refl

pub head_cut_off : table_fault_of (land Never) (water Never) (take 12 three_cells) ≡ Some Head
unfolding table_fault_of
head_cut_off = refl

pub other_rule : table_fault_of (land One) (water One) three_cells ≡ Some Head
unfolding table_fault_of
other_rule = refl

-- the map `WW.`: one move to each side on the water, and none on the land
abbrev two_wet : Ground → GridData
two_wet layer = layer_of layer One 3 1 (codes "WW.")

pub water_behind_land : encoding One (two_wet Land) (two_wet Water) ≡ head_bytes One 3 1 ++ (zeros 48
    ++ (zeros 4 ++ 255 ∷ 255 ∷ zeros 10) ++ (zeros 12 ++ 255 ∷ 255 ∷ zeros 2) ++ zeros 16)
unfolding encoding
water_behind_land = refl

-- the map `.@/@.`: one move between the two blocked cells, each way, where both may be passed
abbrev touching : Ground → Corner → GridData
touching layer corner = layer_of layer corner 2 2 (codes ".@@.")

abbrev four_cells : List ℕ
four_cells = 74 ∷ 80 ∷ 83 ∷ 80 ∷ 76 ∷ 85 ∷ 83 ∷ 49 ∷ 2 ∷ 2 ∷ 0 ∷ 2 ∷ 0 ∷
    (zeros 6 ++ 255 ∷ 255 ∷ zeros 54 ++ 255 ∷ 255 ∷ zeros 64)

pub encoding_of_four : encoding Both (touching Land Both) (touching Water Both) ≡ four_cells
unfolding encoding
encoding_of_four = refl

pub right_under_both : table_fault_of (touching Land Both) (touching Water Both) four_cells ≡ None
unfolding table_fault_of
right_under_both = refl

pub one_under_both : table_fault_of (touching Land Both) (touching Water Both) (slice_set four_cells 8 1)
    ≡ Some Head
unfolding table_fault_of
one_under_both = refl

pub both_under_one : table_fault_of (touching Land One) (touching Water One) four_cells ≡ Some Head
unfolding table_fault_of
both_under_one = refl

pub no_rule : table_fault_of (touching Land Both) (touching Water Both) (slice_set four_cells 8 3)
    ≡ Some Head
unfolding table_fault_of
no_rule = refl
