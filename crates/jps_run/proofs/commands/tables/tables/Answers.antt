use Rattle.std.proofs.Common.{◌≡◌, refl, ap, ◌∙◌, subst, inl, List, [], ◌∷◌, ℕ, arith}
use Rattle.grid_moves.specs.Layers.{Layers, layers_of}
use Rattle.map_text.specs.Map.{Map}
use Rattle.plus_tables.specs.Tables.{AreTablesOf}
use Rattle.table_file.proofs.Laws.{file_is}
use Rattle.table_file.specs.Encoding.{encoding}
use Rattle.word_list.specs.declared.request.Settings.{Settings}
use Rattle.map_text.specs.Faults.{map_of}
use Rattle.jps_run.specs.Calls.{call_with, output_of}
use Rattle.jps_run.specs.Parts.{Prints, printed}
use Rattle.jps_run.specs.declared.work.Work.TheVariants as work
use Rattle.word_list.specs.Request.{asking}
use Rattle.word_list.specs.declared.rows.Command.TheVariants as command
use Rattle.grid_answers.specs.Encoded.{IsEncoded}
use Rattle.call_files.specs.Reading.{AreLayersOf}
use Rattle.jps_run.specs.Tabled.{tables_text}
use Rattle.grid_answers.specs.declared.encoded.TableFile.{TableFile}
use Rattle.jps_run.proofs.Opening.{value-read, work-of}
use Rattle.jps_run.proofs.commands.tables.tables.Goals as goal

module _ (set : Settings) (m : Map) (ls : Layers) (are : AreLayersOf set m ls) (file : TableFile)
    (land : AreTablesOf file.land ls.land) (water : AreTablesOf file.water ls.water)
    (corner : file.corner ≡ ls.land.corner) where
  -- what is written is the table file of the map
  encodes : (lines : List (List ℕ)) (status : ℕ) → IsEncoded file lines status
      → Prints (printed (tables_text set.rule m) 0) lines status
  encodes lines status whole =
      let of_map = layers_of set.rule m.width m.height m.cells in
      let on_land = subst (λ (l : Layers). AreTablesOf file.land l.land) are land in
      let on_water = subst (λ (l : Layers). AreTablesOf file.water l.water) are water in
      let rule : file.corner ≡ set.rule = corner ∙ ap (λ (l : Layers). l.land.corner) are in
      record {
        all = whole.text.0 ∙ ap (λ (t : List ℕ). t ∷ []) (
            file_is of_map.land of_map.water file.corner file.land file.water
            (record { width = refl; height = refl; corner = refl }) on_land on_water whole.land whole.water
            ∙ ap (λ rule. encoding rule of_map.land of_map.water) rule);
        code = whole.text.1;
      }

pub returns-clause-opened : goal.returns-clause-opened
unfolding output_of
returns-clause-opened g c =
    let set = c.args.settings in
    let r = c.in_ok-layers.ensures.read in
    let file = c.in_ok-file.file in
    let made = c.in_ok-file.ensures in
    record {
      texts = r.text ∷ [];
      accepted = rw (← c.name-map.ensures) (r.accepted, tt);
      is = work-of (call_with (asking command.Tables c.args.request) set) (r.text ∷ []) (work.Tables file)
          (printed (tables_text set.rule r.spelled.map) 0)
          (value-read (map_of r.text) r.spelled.map _ r.spelled.spelled) (omega arith) made.room
          (encodes set r.spelled.map c.in_ok-layers.layers r.spelled.is file made.land made.water made.corner)
          (λ old new rose. inl refl);
    }
