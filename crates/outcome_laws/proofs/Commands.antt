-- Of each command: accepted texts give an output, and it is called by its name.
use Rattle.std.proofs.Common.{◌≡◌, ◌∙◌, refl, sym, ap, subst, ℕ, Bool, true, false, List, [], ◌∷◌, ◌++◌}
use Rattle.std.proofs.Common.{length, append-nil}
use Rattle.std.specs.Prelude.{Option, Some, None, Result, Ok, Err, if◌then◌else◌}
use Rattle.io_edge.specs.Known.{Held}
use Rattle.map_text.specs.Map.{Map}
use Rattle.map_text.specs.Faults.{map_of}
use Rattle.map_text.specs.declared.fault.MapFault.{MapFault}
use Rattle.script_text.specs.Faults.{script_of}
use Rattle.scen_text.specs.Faults.{scen_of}
use Rattle.walk_judge.specs.Walks.{walks_of}
use Rattle.potential_check.specs.Text.{certificate_of}
use Rattle.word_list.specs.Kinds.{word_at}
use Rattle.word_list.specs.Settings.{is_for_small_maps}
use Rattle.word_list.specs.declared.request.Settings.{Settings}
use Rattle.word_list.specs.declared.rows.Command.{Command}
use Rattle.word_list.specs.declared.rows.Command.TheVariants as command
use Rattle.call_files.specs.FaultLines.{cert_line, map_line, scen_line, script_line, walks_line}
use Rattle.call_files.specs.Files.{AreAccepted, File, file_of}
use Rattle.call_files.specs.Kinds.{count_in, fault_in, kind_for, refusal_of, small_refusal}
use Rattle.call_files.specs.MapFiles.{map_files}
use Rattle.call_files.specs.declared.kind.Extent.TheVariants as extent
use Rattle.call_files.specs.declared.kind.TextKind.{TextKind}
use Rattle.call_files.specs.declared.kind.TextKind.TheVariants as kind
use Rattle.jps_run.specs.Calls.{Task, reads_input, task}
use Rattle.jps_run.specs.Parts.{Output, on_last, on_map, on_read, printed}
use Rattle.call_files.specs.Layered.{grids_under}
use Rattle.jps_run.specs.Manner.{Manner}
use Rattle.jps_run.specs.Rulings.{judge_output}
use Rattle.jps_run.specs.Texts.{help_text, version_text}
use Rattle.outcome_laws.specs.Words.{CommandsAreCalled}
use Rattle.jps_run.proofs.Opening.{last-read, value-read}

-- a text that is not refused is read
read_of : {V F : Type 0} (line_of : F → List ℕ) (read : Result V F) → fault_in line_of read ≡ None
    → (value : V) × (read ≡ Ok value)
read_of line_of (Ok value) e = (value, refl)
read_of line_of (Err fault) e = absurd (cc)

small_of : (read : Result Map MapFault) → small_refusal read ≡ None → (m : Map) × (read ≡ Ok m)
small_of (Ok m) e = (m, refl)
small_of (Err fault) e = absurd (cc)

map_read : (text : List ℕ) (b : Bool)
    → refusal_of (kind_for (if b then extent.Small else extent.Any)) [] text ≡ None
    → (m : Map) × (map_of text ≡ Ok m)
map_read text true e = small_of (map_of text) e
map_read text false e = read_of map_line (map_of text) e

-- of texts that are accepted behind those of a map: the map's, and those behind it
pub record HasMap (holds : List ℕ → Held) (rest : List File) (texts : List (List ℕ)) : Type 0 where
  pub text : List ℕ
  pub loaded : List (List ℕ)
  pub more : List (List ℕ)
  pub map : Map
  pub is : texts ≡ text ∷ (loaded ++ more)
  pub read : map_of text ≡ Ok map
  pub accepted : AreAccepted holds (text ∷ loaded) rest more

module _ (holds : List ℕ → Held) where
  pub has_map : (set : Settings) (map : List ℕ) (tables : Option (List ℕ)) (rest : List File)
      (texts : List (List ℕ)) → AreAccepted holds [] (map_files set map tables ++ rest) texts
      → HasMap holds rest texts
  has_map set map None rest [] p = absurd p
  has_map set map None rest (text ∷ more) p =
      let m = map_read text (is_for_small_maps set.pick) p.0.1 in
      record { text = text; loaded = []; more = more; map = m.0; is = refl; read = m.1; accepted = p.1 }
  has_map set map (Some tables) rest [] p = absurd p
  has_map set map (Some tables) rest (text ∷ []) p = absurd (p.1)
  has_map set map (Some tables) rest (text ∷ loaded ∷ more) p =
      let m = read_of map_line (map_of text) p.0.1 in record {
        text = text;
        loaded = loaded ∷ [];
        more = more;
        map = m.0;
        is = refl;
        read = m.1;
        accepted = p.1.1;
      }

  -- one text is accepted of one file
  single : (earlier : List (List ℕ)) (file : File) (texts : List (List ℕ))
      → AreAccepted holds earlier (file ∷ []) texts
      → (second : List ℕ) × ((texts ≡ second ∷ []) × (refusal_of file.kind earlier second ≡ None))
  single earlier file [] p = absurd p
  single earlier file (text ∷ []) p = (text, (refl, p.0.1))
  single earlier file (text ∷ x ∷ texts) p = absurd (p.1)

-- a task has an output on these texts
abbrev pub HasOutput : Task → Manner → List (List ℕ) → Type 0
HasOutput task manner texts = (o : Output) × (task.output manner texts ≡ Some o)

module _ (holds : List ℕ → Held) where
  -- a map that is read alone
  alone : (kind : TextKind) (map : List ℕ) (texts : List (List ℕ))
      → ((text : List ℕ) → refusal_of kind [] text ≡ None → (m : Map) × (map_of text ≡ Ok m))
      → AreAccepted holds [] (file_of kind map ∷ []) texts → HasMap holds [] texts
  alone kind map texts read p =
      let one = single holds [] (file_of kind map) texts p in
      let m = read one.0 one.1.1 in
      record { text = one.0; loaded = []; more = []; map = m.0; is = one.1.0; read = m.1; accepted = tt }

  any_map : (map : List ℕ) (texts : List (List ℕ)) → AreAccepted holds [] (file_of kind.Map map ∷ []) texts
      → HasMap holds [] texts
  any_map map texts = alone kind.Map map texts (λ text e. read_of map_line (map_of text) e)

  small_map : (map : List ℕ) (texts : List (List ℕ))
      → AreAccepted holds [] (file_of kind.SmallMap map ∷ []) texts → HasMap holds [] texts
  small_map map texts = alone kind.SmallMap map texts (λ text e. small_of (map_of text) e)

  -- the map of texts that are accepted for it alone, and for a table file
  pub with_tables : (set : Settings) (map : List ℕ) (tables : Option (List ℕ)) (texts : List (List ℕ))
      → AreAccepted holds [] (map_files set map tables) texts → HasMap holds [] texts
  with_tables set map tables texts p =
      has_map holds set map tables [] texts (subst (λ (fs : List File). AreAccepted holds [] fs texts)
      (sym (append-nil (map_files set map tables))) p)

  -- what is printed of a map
  on_its : {rest : List File} {texts : List (List ℕ)} (make : Map → Output) → HasMap holds rest texts
      → (o : Output) × (on_map texts (λ m behind. Some (make m)) ≡ Some o)
  on_its make h = (
    make h.map,
    ap (λ (ts : List (List ℕ)). on_map ts (λ m behind. Some (make m))) h.is
        ∙ value-read (map_of h.text) h.map (λ m. Some (make m)) h.read,
  )

  -- and of the last text
  on_its_last : {V F : Type 0} {texts : List (List ℕ)} (file : File) (read : List ℕ → Result V F)
      (make : Map → List ℕ → V → Output) → HasMap holds (file ∷ []) texts
      → ((earlier : List (List ℕ)) (text : List ℕ) → refusal_of file.kind earlier text ≡ None
      → (v : V) × (read text ≡ Ok v))
      → (o : Output) × (on_map texts (λ m behind. on_last behind (λ second. on_read (read second)
      (λ v. Some (make m second v)))) ≡ Some o)
  on_its_last file read make h reads =
      let one = single holds (h.text ∷ h.loaded) file h.more h.accepted in
      let v = reads (h.text ∷ h.loaded) one.0 one.1.1 in
      let last : Map → List (List ℕ) → Option Output
      = λ m behind. on_last behind (λ second. on_read (read second) (λ v. Some (make m second v))) in (
        make h.map one.0 v.0,
        ap (λ (ts : List (List ℕ)). on_map ts last)
            (h.is ∙ ap (λ (more : List (List ℕ)). h.text ∷ (h.loaded ++ more)) one.1.0)
            ∙ value-read (map_of h.text) h.map (λ m. last m (h.loaded ++ one.0 ∷ [])) h.read
            ∙ last-read h.loaded one.0 (λ second. on_read (read second) (λ v. Some (make h.map second v)))
            ∙ value-read (read one.0) v.0 (λ v. Some (make h.map one.0 v)) v.1,
      )

  -- a map and one file behind it
  behind_map : (file : File) (map : List ℕ) (texts : List (List ℕ))
      → AreAccepted holds [] (file_of kind.Map map ∷ file ∷ []) texts → HasMap holds (file ∷ []) texts
  behind_map file map [] p = absurd p
  behind_map file map (text ∷ more) p =
      let m = read_of map_line (map_of text) p.0.1 in
      record { text = text; loaded = []; more = more; map = m.0; is = refl; read = m.1; accepted = p.1 }

  -- so each command that does not read what comes in has an output on accepted texts
  pub has_output : (set : Settings) (command : Command) (words : List (List ℕ)) (tables : Option (List ℕ))
      (manner : Manner) (texts : List (List ℕ))
      → AreAccepted holds [] ((task command words).files set tables) texts
      → reads_input command ≡ false → HasOutput (task command words) manner texts
  has_output set command.Help words tables manner texts p silent = (printed help_text 0, refl)
  has_output set command.Version words tables manner texts p silent = (printed version_text 0, refl)
  has_output set command.Make words tables manner texts p silent = (_, refl)
  has_output set command.Drill words tables manner texts p silent = (_, refl)
  has_output set command.Live words tables manner texts p silent = absurd (cc)
  has_output set command.Serve words tables manner texts p silent = absurd (cc)
  has_output set command.Query words tables manner texts p silent =
      on_its _ (with_tables set (word_at words 0) tables texts p)
  has_output set command.Solve words tables manner texts p silent =
      let file = file_of kind.Script (word_at words 1) in
      on_its_last file script_of _ (has_map holds set (word_at words 0) tables (file ∷ []) texts p)
      (λ earlier text e. read_of script_line (script_of text) e)
  has_output set command.Scen words tables manner texts p silent =
      let file = file_of kind.Scen (word_at words 1) in
      on_its_last file scen_of _ (has_map holds set (word_at words 0) tables (file ∷ []) texts p)
      (λ earlier text e. read_of scen_line (scen_of text) e)
  has_output set command.Lengths words tables manner texts p silent =
      let file = file_of kind.Scen (word_at words 1) in
      on_its_last file scen_of _ (behind_map file (word_at words 0) texts p)
      (λ earlier text e. read_of scen_line (scen_of text) e)
  has_output set command.Check words tables manner texts p silent =
      let file = file_of kind.Cert (word_at words 1) in
      on_its_last file certificate_of _ (behind_map file (word_at words 0) texts p)
      (λ earlier text e. read_of cert_line (certificate_of text) e)
  has_output set command.Judge words tables manner [] p silent = absurd p
  has_output set command.Judge words tables manner (text ∷ []) p silent = absurd (p.1)
  has_output set command.Judge words tables manner (text ∷ second ∷ []) p silent = absurd (p.1.1)
  has_output set command.Judge words tables manner (text ∷ second ∷ third ∷ x ∷ texts) p silent =
      absurd (p.1.1.1)
  has_output set command.Judge words tables manner (text ∷ second ∷ third ∷ []) p silent =
      let m = read_of map_line (map_of text) p.0.1 in
      let entries = read_of scen_line (scen_of second) p.1.0.1 in
      let claimed = read_of walks_line (walks_of third (length entries.0))
      (subst (λ (n : ℕ). fault_in walks_line (walks_of third n) ≡ None)
      (ap count_in entries.1) p.1.1.0.1) in (
        judge_output (grids_under manner.rule m.0) entries.0 claimed.0,
        value-read (map_of text) m.0 _ m.1 ∙ value-read (scen_of second) entries.0 _ entries.1
            ∙ value-read (walks_of third (length entries.0)) claimed.0 _ claimed.1,
      )
  has_output set command.Problems words tables manner texts p silent =
      on_its _ (any_map (word_at words 0) texts p)
  has_output set command.Prove words tables manner texts p silent = on_its _
      (any_map (word_at words 0) texts p)
  has_output set command.Draw words tables manner texts p silent = on_its _
      (any_map (word_at words 0) texts p)
  has_output set command.Costs words tables manner texts p silent = on_its _
      (any_map (word_at words 0) texts p)
  has_output set command.Tables words tables manner texts p silent = on_its _ (any_map
      (word_at words 0) texts p)
  has_output set command.Boxes words tables manner texts p silent = on_its _ (small_map
      (word_at words 0) texts p)
  has_output set command.Moves words tables manner texts p silent = on_its _ (small_map
      (word_at words 0) texts p)

-- and each has a row in the table of commands by its name
pub called : CommandsAreCalled
called command.Help words = refl
called command.Version words = refl
called command.Query words = refl
called command.Solve words = refl
called command.Live words = refl
called command.Serve words = refl
called command.Scen words = refl
called command.Judge words = refl
called command.Lengths words = refl
called command.Problems words = refl
called command.Prove words = refl
called command.Check words = refl
called command.Make words = refl
called command.Drill words = refl
called command.Draw words = refl
called command.Costs words = refl
called command.Tables words = refl
called command.Boxes words = refl
called command.Moves words = refl
