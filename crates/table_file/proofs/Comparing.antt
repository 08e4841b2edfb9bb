-- The tables of a map's grids compared with a text.
use Rattle.std.proofs.lemmas.Bool.Decides.{nat_tests}
use Rattle.std.proofs.Common.{◌≡◌, ℕ, suc, ◌+◌, ◌*◌, ◌<◌, Bool, List, [], ◌∷◌, length, take}
use Rattle.std.proofs.Common.{drop, refl, ap, sym, ◌∙◌, arith}
use Rattle.std.specs.Prelude.{ℤ, Option, Some, None, Result, OnOk, option_map, if◌then◌else◌}
use Rattle.std.specs.Option.{option_or}
use Rattle.std.specs.Str.{bytes_eq}
use Rattle.grid_moves.specs.declared.Ground.{Ground}
use Rattle.grid_moves.specs.declared.Ground.TheVariants.{Land, Water}
use Rattle.grid_moves.specs.Grid.{GridData, is_ground}
use Rattle.plus_tables.specs.Tables.{TablesData, AreTablesOf, IsWhole}
use Rattle.table_file.specs.declared.fault.TableFault.{TableFault}
use Rattle.table_file.specs.Encoding.{AreOfOneMap, encoding, entry_bytes, entry_for}
use Rattle.table_file.specs.Faults.{Tells, entry_fault, first_wrong, frame_fault, table_fault_of}
use Rattle.table_file.specs.Order.{cells_from, spots_on}
use Rattle.table_file.specs.Reading.{first_other, spot_of}
use Rattle.table_file.proofs.Finding.{wrong-append, wrong_named}
use Rattle.table_file.proofs.Laws.{only_encoding}
use Rattle.table_file.proofs.Numbering.{entries_listed, length-spots, spots-numbered}

below_test : (b : Bool) (place m : ℕ) (rest : Option ℕ) (found : ℕ)
    → (rest ≡ Some found → found < m) → place < m → (if b then rest else Some place) ≡ Some found → found < m
below_test b place m rest found h i j = grind (arith, nat_tests)

-- what is found is a place of an entry
pub first_other-below : (place : ℕ) (entries : List ℤ) (bytes : List ℕ) (found : ℕ)
    → first_other place entries bytes ≡ Some found → found < place + length entries
first_other-below place [] bytes found is = absurd (cc)
first_other-below place (entry ∷ entries) bytes found is =
    below_test (bytes_eq (take 2 bytes) (entry_bytes entry)) place (place + suc (length entries))
    (first_other (place + 1) entries (drop 2 bytes)) found
    (λ later. let less = first_other-below (place + 1) entries (drop 2 bytes) found later in omega arith)
    (omega arith) is

-- the first entry that differs, by the tables' entries
pub compared_by : (land water g : GridData) (t : TablesData) (layer : Ground) (bytes : List ℕ)
    → g ≡ (if is_ground Water layer then water else land) → AreTablesOf t g → IsWhole t → (entries : List ℤ)
    → entries ≡ t.entries → (found : Option ℕ) → found ≡ first_other 0 entries bytes
    → first_wrong (entry_for land water) (spots_on layer (cells_from g.width 0 (g.height * g.width))) bytes
    ≡ option_map (spot_of layer g.width) found
compared_by land water g t layer bytes is are whole entries same found named =
    let spots = spots_on layer (cells_from g.width 0 (g.height * g.width)) in
    wrong_named (spot_of layer g.width) (entry_for land water) 0 spots bytes
    (spots-numbered layer g.width 0 0 (g.height * g.width) refl)
    ∙ ap (λ (l : List ℤ). option_map (spot_of layer g.width) (first_other 0 l bytes))
    (sym (same ∙ entries_listed land water g t layer is are whole))
    ∙ ap (option_map (spot_of layer g.width)) (sym named)

map-or : {A B : Type 0} (f : A → B) (x y : Option A)
    → option_map f (option_or x y) ≡ option_or (option_map f x) (option_map f y)
map-or f x y = grind (arith, nat_tests)

module _ (land water : GridData) (text : List ℕ) where
  -- the fault of the land grid's entries, and of the water grid's behind them
  abbrev pub land_fault : List ℕ → Option TableFault
  land_fault body = option_map entry_fault (first_wrong (entry_for land water)
      (spots_on Land (cells_from land.width 0 (land.height * land.width))) body)

  abbrev pub water_fault : ℕ → ℕ → List ℕ → Option TableFault
  water_fault width height behind = option_map entry_fault (first_wrong (entry_for land water)
      (spots_on Water (cells_from width 0 (height * width))) behind)

  in_parts : table_fault_of land water text ≡ option_or (frame_fault land text)
      (option_or (land_fault (drop 13 text)) (water_fault land.width land.height
      (drop (2 * length (spots_on Land (cells_from land.width 0 (land.height * land.width)))) (drop 13
      text))))
  unfolding table_fault_of
  in_parts = grind (arith, nat_tests, wrong-append, map-or)

  pub frame_decides : (fault : TableFault) → frame_fault land text ≡ Some fault
      → table_fault_of land water text ≡ Some fault
  frame_decides fault is = grind (arith, nat_tests, in_parts)

  module _ (fine : frame_fault land text ≡ None) (body : List ℕ) (is : body ≡ drop 13 text) where
    behind_frame : table_fault_of land water text ≡ option_or (land_fault body) (water_fault land.width
        land.height
        (drop (2 * length (spots_on Land (cells_from land.width 0 (land.height * land.width)))) body))
    behind_frame = grind (arith, nat_tests, in_parts)

    pub land_decides : (fault : TableFault) → land_fault body ≡ Some fault
        → table_fault_of land water text ≡ Some fault
    land_decides fault named = grind (arith, nat_tests, behind_frame)

    pub water_decides : land_fault body ≡ None → AreOfOneMap land water → (k : ℕ)
        → k ≡ 16 * (land.height * land.width) → (behind : List ℕ) → behind ≡ drop k body
        → table_fault_of land water text ≡ water_fault water.width water.height behind
    water_decides right one k half behind rest = grind (arith, nat_tests, behind_frame, length-spots)

  -- an accepted text is the encoding
  pub found_by : {A : Type 0} (answer : Result A TableFault) → Tells answer (table_fault_of land water text)
      → OnOk answer (text ≡ encoding land.corner land water)
  found_by answer h = grind (arith, nat_tests, only_encoding)
