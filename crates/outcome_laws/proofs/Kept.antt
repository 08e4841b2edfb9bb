-- Layers of maps, and what edits leave of layers.
use Rattle.std.proofs.Common.{◌≡◌, ℕ, refl, ap, sym, ◌∙◌, Bool, true, false, ◌&&◌, List, map, reverse, ◌*◌}
use Rattle.std.specs.Prelude.{Option, Some, None, Ok}
use Rattle.std.specs.List.{find, enumerate_from}
use Rattle.std.specs.Option.{option_map_or}
use Rattle.std.proofs.lemmas.List.{length-map}
use Rattle.std.proofs.lemmas.List.FromFn.{length-enumerate_from}
use Rattle.grid_moves.specs.declared.Cell.{Cell}
use Rattle.grid_moves.specs.declared.Ground.{Ground}
use Rattle.grid_moves.specs.declared.Ground.TheVariants.{Land, Water}
use Rattle.grid_moves.specs.Grid.{AreSides, GridData, IsGrid, is_free, is_ground, is_inside}
use Rattle.grid_moves.specs.Layers.{AreLayers, Layers}
use Rattle.grid_moves.specs.Move.{is_same}
use Rattle.grid_moves.proofs.Layering.{are_layers-of, is_inside-water, not_both}
use Rattle.map_text.specs.Faults.{map_of}
use Rattle.map_text.specs.Map.{IsMap, Map}
use Rattle.map_text.proofs.Laws.{map_read}
use Rattle.map_maker.specs.Making.{cell_of, made_map}
use Rattle.map_maker.specs.Words.{generator_of, words_of}
use Rattle.map_maker.proofs.Drawn.{length-words_from}
use Rattle.edit_replay.specs.Edited.{Edit, asked, edited, edited_layer}
use Rattle.edit_replay.proofs.Edits.{is_free-edited, is_inside-edited}
use Rattle.word_list.specs.declared.request.Settings.{Settings}
use Rattle.call_files.specs.Layered.{layers_on}

pub are_layers-map : (set : Settings) (m : Map) → IsMap m.width m.height m.cells → AreLayers (layers_on set m)
are_layers-map set m is = are_layers-of set.rule m.width m.height m.cells (record {
  sides = record { wide = is.wide; narrow = is.narrow; high = is.high; low = is.low };
  whole = is.whole;
})

pub are_layers-text : (set : Settings) (text : List ℕ) (m : Map) → map_of text ≡ Ok m
    → AreLayers (layers_on set m)
are_layers-text set text m read = are_layers-map set m ((map_read text).found m read).is_map

pub are_layers-seed : (set : Settings) (seed width height percent : ℕ) → AreSides width height
    → AreLayers (layers_on set (made_map seed width height percent))
are_layers-seed set seed width height percent sides =
    are_layers-of set.rule width height (map (cell_of percent) (words_of seed (height * width)))
    (record {
      sides = sides;
      whole = length-map (words_of seed (height * width)) (cell_of percent)
          ∙ length-words_from (height * width) (generator_of seed);
    })

is_grid-edited : (ground : Ground) (g : GridData) (edits : List Edit) → IsGrid g
    → IsGrid (edited_layer ground g edits)
unfolding edited_layer
is_grid-edited ground g edits is = record {
  sides = is.sides;
  whole = length-map (enumerate_from 0 g.free) (λ cell. asked ground g edits cell.0 cell.1)
      ∙ length-enumerate_from 0 g.free ∙ is.whole;
}

-- the sides and the corner rule stay
record HasSidesOf (g h : GridData) : Type 0 where
  width : g.width ≡ h.width
  height : g.height ≡ h.height
  corner : g.corner ≡ h.corner

sides_stay : (ground : Ground) (g : GridData) (edits : List Edit) → HasSidesOf (edited_layer ground g edits) g
unfolding edited_layer
sides_stay ground g edits = record { width = refl; height = refl; corner = refl }

outside_not_free : (g : GridData) (c : Cell) → is_inside g c ≡ false → is_free g c ≡ false
outside_not_free g c outside = rw outside refl

both_not : (a b : Bool) → a ≡ false → (a && b) ≡ false
both_not a b e = rw e refl

-- the last edit that names a cell makes it land or water, and not both
apart-edited : (ls : Layers) (edits : List Edit) → AreLayers ls → (c : Cell)
    → (is_free (edited_layer Land ls.land edits) c && is_free (edited_layer Water ls.water edits) c) ≡ false
apart-edited ls edits are c = by_place (is_inside ls.land c) refl
  where
    by_edit : (o : Option Edit)
        → (option_map_or (λ edit. is_ground Land edit.to) o (is_free ls.land c)
        && option_map_or (λ edit. is_ground Water edit.to) o (is_free ls.water c)) ≡ false
    by_edit (Some edit) = not_both edit.to
    by_edit None = are.apart c

    by_place : (b : Bool) → is_inside ls.land c ≡ b
        → (is_free (edited_layer Land ls.land edits) c && is_free (edited_layer Water ls.water edits) c)
        ≡ false
    by_place true inside =
        let in_water : is_inside ls.water c ≡ true = is_inside-water ls are c ∙ inside in
        ap (λ (b : Bool). b && is_free (edited_layer Water ls.water edits) c)
        (is_free-edited Land ls.land edits c are.land inside)
        ∙ ap (λ (b : Bool). option_map_or (λ edit. is_ground Land edit.to)
        (find (λ edit. is_same edit.cell c) (reverse edits)) (is_free ls.land c) && b)
        (is_free-edited Water ls.water edits c are.water in_water)
        ∙ by_edit (find (λ edit. is_same edit.cell c) (reverse edits))
    by_place false outside = both_not (is_free (edited_layer Land ls.land edits) c) _
        (outside_not_free (edited_layer Land ls.land edits) c (is_inside-edited Land ls.land edits c
        ∙ outside))

pub are_layers-edited : (ls : Layers) (edits : List Edit) → AreLayers ls → AreLayers (edited ls edits)
are_layers-edited ls edits are =
    let land = sides_stay Land ls.land edits in
    let water = sides_stay Water ls.water edits in
    record {
      land = is_grid-edited Land ls.land edits are.land;
      water = is_grid-edited Water ls.water edits are.water;
      width = water.width ∙ are.width ∙ sym land.width;
      height = water.height ∙ are.height ∙ sym land.height;
      corner = water.corner ∙ are.corner ∙ sym land.corner;
      apart = apart-edited ls edits are;
    }
