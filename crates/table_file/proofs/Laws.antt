-- A text has no fault exactly where it is the encoding.
use Rattle.std.proofs.Common.{◌≡◌, ℕ, ◌+◌, ◌-◌, ◌*◌, Bool, true, List, [], ◌∷◌, ◌++◌, length, take}
use Rattle.std.proofs.Common.{drop, refl, ap, sym, ◌∙◌, arith}
use Rattle.std.specs.Prelude.{ℤ, Option, Some, None, option_map, map, flat_map, not, nat_eq, if◌then◌else◌}
use Rattle.std.specs.Option.{option_or}
use Rattle.std.specs.Str.{bytes_eq}
use Rattle.std.proofs.lemmas.Bool.Decides.{nat_tests}
use Rattle.std.proofs.lemmas.List.{length-append, length-drop, map-append, take-append-drop, take_at, drop_at}
use Rattle.std.proofs.lemmas.Slice.Eq.{bytes_eq-Decides}
use Rattle.grid_moves.specs.declared.Corner.{Corner}
use Rattle.grid_moves.specs.declared.Ground.TheVariants.{Land, Water}
use Rattle.grid_moves.specs.Grid.{GridData}
use Rattle.plus_tables.specs.Tables.{TablesData, AreTablesOf, IsWhole}
use Rattle.table_file.specs.declared.fault.TableFault.{TableFault}
use Rattle.table_file.specs.declared.fault.TableFault.TheVariants.{Head, Length}
use Rattle.table_file.specs.Encoding.{AreOfOneMap, encoding, entry_bytes, entry_for, head_bytes, size_of}
use Rattle.table_file.specs.Faults.{entry_fault, first_wrong, frame_fault, table_fault_of}
use Rattle.table_file.specs.Order.{Spot, cells_from, spots_of, spots_on}
use Rattle.table_file.specs.Written.{file_of}
use Rattle.table_file.proofs.Finding.{all_right, none_wrong}
use Rattle.table_file.proofs.Numbering.{entries_listed, length-spots}
use Rattle.std.proofs.lemmas.Grind.{flat_map-append}
use Rattle.std.proofs.lemmas.List.Folds.{flat_map-map}

length-spots_of : (width height : ℕ) → 2 * length (spots_of width height) ≡ 32 * (height * width)
length-spots_of width height = grind (arith, nat_tests, length-spots, length-append)

pub length-flat : (entry : Spot → ℤ) (spots : List Spot)
    → length (flat_map (λ s. entry_bytes (entry s)) spots) ≡ 2 * length spots
length-flat entry [] = refl
length-flat entry (s ∷ spots) = let others = length-flat entry spots in omega arith

neither : {A : Type 0} (x y : Option A) → option_or x y ≡ None → (x ≡ None) × (y ≡ None)
neither x y h = grind (arith, nat_tests)

no_image : {A B : Type 0} (f : A → B) (x : Option A) → option_map f x ≡ None → x ≡ None
no_image f x h = grind (arith, nat_tests)

frame_none : (right whole : Bool) → right ≡ true → whole ≡ true
    → (if not right then Some Head else if not whole then Some Length else None) ≡ None
frame_none right whole h i = grind (arith, nat_tests)

module _ (land water : GridData) where
  frame_right : (text : List ℕ) → frame_fault land text ≡ None
      → (take 13 text ≡ head_bytes land.corner land.width land.height) × (length text ≡ size_of land)
  frame_right text none = grind (arith, nat_tests)

  -- a text without a fault is the encoding
  pub only_encoding : (text : List ℕ) → table_fault_of land water text ≡ None
      → text ≡ encoding land.corner land water
  unfolding table_fault_of encoding
  only_encoding text none =
      let both = neither _ _ none in
      let frame = frame_right text both.0 in
      let right = no_image entry_fault _ both.1 in
      sym (take-append-drop 13 text) ∙ ap (λ (l : List ℕ). l ++ drop 13 text) frame.0
      ∙ ap (λ (l : List ℕ). head_bytes land.corner land.width land.height ++ l)
      (all_right (entry_for land water) (spots_of land.width land.height) (drop 13 text) right
      (length-drop 13 text ∙ ap (λ (n : ℕ). n - 13) frame.1 ∙ less (land.height * land.width)
      ∙ sym (length-spots_of land.width land.height)))
    where
      less : (n : ℕ) → 13 + 32 * n - 13 ≡ 32 * n
      less n = omega arith

  pub length-encoding : (corner : Corner) → length (encoding corner land water) ≡ size_of land
  unfolding encoding
  length-encoding corner =
      length-append (head_bytes corner land.width land.height)
      (flat_map (λ s. entry_bytes (entry_for land water s)) (spots_of land.width land.height))
      ∙ ap (λ (n : ℕ). 13 + n) (length-flat (entry_for land water) (spots_of land.width land.height)
      ∙ length-spots_of land.width land.height)

  -- the encoding has no fault
  pub encoding_right : table_fault_of land water (encoding land.corner land water) ≡ None
  unfolding table_fault_of encoding
  encoding_right =
      let head = head_bytes land.corner land.width land.height in
      let spots = spots_of land.width land.height in
      let body = flat_map (λ s. entry_bytes (entry_for land water s)) spots in
      let front : take 13 (head ++ body) ≡ head = take_at head body 13 refl in
      let back : drop 13 (head ++ body) ≡ body = drop_at head body 13 refl in
      let long : length (head ++ body) ≡ size_of land = length-encoding land.corner in
      let frame : frame_fault land (head ++ body) ≡ None =
      frame_none (bytes_eq head (take 13 (head ++ body))) (nat_eq (length (head ++ body)) (size_of land))
      ((bytes_eq-Decides head (take 13 (head ++ body))).1 (sym front)) (grind (arith, nat_tests)) in
      ap (λ (o : Option TableFault). option_or o (option_map entry_fault (first_wrong (entry_for land
      water) spots
      (drop 13 (head ++ body))))) frame
      ∙ ap (λ (l : List ℕ). option_map entry_fault (first_wrong (entry_for land water) spots l)) back
      ∙ ap (option_map entry_fault) (none_wrong (entry_for land water) spots)

  -- what is written for two tables is the encoding of their grids
  pub file_is : (corner : Corner) (first_t sea : TablesData) → AreOfOneMap land water
      → AreTablesOf first_t land
      → AreTablesOf sea water → IsWhole first_t → IsWhole sea
      → file_of corner first_t sea ≡ encoding corner land water
  unfolding encoding
  file_is corner first_t sea one are are_too whole whole_too =
      let cells = cells_from land.width 0 (land.height * land.width) in
      let entry = entry_for land water in
      let first : first_t.entries ≡ map entry (spots_on Land cells) =
      entries_listed land water land first_t Land refl are whole in
      let second : sea.entries ≡ map entry (spots_on Water cells) =
      entries_listed land water water sea Water refl are_too whole_too
      ∙ ap (λ (w : ℕ). map entry (spots_on Water (cells_from w 0 (water.height * w)))) one.width
      ∙ ap (λ (h : ℕ). map entry (spots_on Water (cells_from land.width 0 (h * land.width)))) one.height in
      ap (λ (w : ℕ). head_bytes corner w first_t.height
      ++ (flat_map entry_bytes first_t.entries ++ flat_map entry_bytes sea.entries)) are.sized.width
      ∙ ap (λ (h : ℕ). head_bytes corner land.width h
      ++ (flat_map entry_bytes first_t.entries ++ flat_map entry_bytes sea.entries)) are.sized.height
      ∙ ap (λ (l : List ℤ). head_bytes corner land.width land.height
      ++ (flat_map entry_bytes l ++ flat_map entry_bytes sea.entries)) first
      ∙ ap (λ (l : List ℤ). head_bytes corner land.width land.height
      ++ (flat_map entry_bytes (map entry (spots_on Land cells)) ++ flat_map entry_bytes l)) second
      ∙ ap (λ (l : List ℕ). head_bytes corner land.width land.height ++ l)
      (sym (flat_map-append entry_bytes (map entry (spots_on Land cells)) (map entry (spots_on Water cells)))
      ∙ ap (flat_map entry_bytes) (sym (map-append entry (spots_on Land cells) (spots_on Water cells)))
      ∙ flat_map-map entry_bytes entry (spots_on Land cells ++ spots_on Water cells))
