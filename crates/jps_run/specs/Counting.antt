-- How many steps a call counts, at least and at most: so many for each state that its searches take, and so
-- many for its edits.
use Rattle.std.specs.Prelude.{◌≡◌, ℕ, Bool, true, false, List, [], Option, None, Some}
use Rattle.io_edge.specs.Known.{Held}
use Rattle.grid_moves.specs.declared.Cell.{Cell}
use Rattle.edit_replay.specs.Session.{SessionData}
use Rattle.map_maker.specs.Drill.{drill_commands}
use Rattle.map_maker.specs.Making.{made_map}
use Rattle.scen_text.specs.Faults.{scen_of}
use Rattle.scen_text.specs.declared.entry.Entry.{Entry}
use Rattle.script_text.specs.Faults.{script_of}
use Rattle.script_text.specs.declared.command.ScriptCommand.{ScriptCommand}
use Rattle.word_list.specs.Kinds.{seed_at}
use Rattle.word_list.specs.Request.{Call}
use Rattle.word_list.specs.declared.rows.Command.{Command}
use Rattle.word_list.specs.declared.rows.Command.TheVariants as command
use Rattle.word_list.specs.declared.request.Settings.{Settings}
use Rattle.call_files.specs.Files.{AreAccepted}
use Rattle.jps_run.specs.Heard.{RoseHeard}
use Rattle.jps_run.specs.Live.{On}
use Rattle.jps_run.specs.Calls.{cell_at, files_of}
use Rattle.jps_run.specs.Outcome.{Spell}
use Rattle.jps_run.specs.Parts.{on_last, on_map, on_read}
use Rattle.jps_run.specs.Rising.{RoseForCommands, RoseForEntries, RoseForQuery}
use Rattle.jps_run.specs.Session.{session_on, who_on}
use Rattle.jps_run.specs.Who.{Who, who_is}

-- what is searched for: one query, the queries of a session's commands, or those of entries
pub data Search : Type 0 where
  query : Who → Cell → Cell → Search
  commands : SessionData → List ScriptCommand → Search
  entries : Who → List Entry → Search

-- the counter rose as a search makes it
abbrev pub RoseForSearch : Option Search → ℕ → ℕ → Type 0
RoseForSearch None old new = ⊥
RoseForSearch (Some (query who s t)) old new = RoseForQuery who s t old new
RoseForSearch (Some (commands d items)) old new = RoseForCommands d items old new
RoseForSearch (Some (entries who items)) old new = RoseForEntries who items old new

-- what a command searches for, with its words and on the texts of its files
unfoldable pub search_of : Settings → Command → List (List ℕ) → List (List ℕ) → Option Search
search_of set command.Query words texts =
    on_map texts (λ m behind. Some (query (who_on set m) (cell_at words 1) (cell_at words 3)))
search_of set command.Solve words texts = on_map texts (λ m behind. on_last behind (λ second.
    on_read (script_of second) (λ items. Some (commands (session_on set m) items))))
search_of set command.Scen words texts = on_map texts (λ m behind. on_last behind (λ second.
    on_read (scen_of second) (λ items. Some (entries (who_on set m) items))))
search_of set command.Drill words texts = Some (commands
    (session_on set (made_map (seed_at words 0) 256 256 25)) (drill_commands (seed_at words 0)))
search_of set command.Draw words texts = on_map texts (λ m behind.
    Some (query (who_is (session_on set m)) (cell_at words 1) (cell_at words 3)))
search_of set other words texts = None

-- whether a command searches anything
abbrev pub searches : Command → Bool
searches command.Query = true
searches command.Solve = true
searches command.Live = true
searches command.Scen = true
searches command.Drill = true
searches command.Draw = true
searches other = false

-- the counter rose as the searches of a call make it
abbrev pub RoseFor : Call → List (List ℕ) → ℕ → ℕ → Type 0
RoseFor call texts old new = RoseForSearch
    (search_of call.settings call.request.command call.request.words texts) old new

-- the counter rose as the files make it that are held, or nothing is searched for the call
pub data HasCounted (call : Call) (holds : List ℕ → Held) (old new : ℕ) : Type 0 where
  none : searches call.request.command ≡ false → HasCounted call holds old new
  some : (texts : List (List ℕ)) → AreAccepted holds [] (files_of call) texts
      → RoseFor call texts old new → HasCounted call holds old new

-- it rose so, or as what came in makes it
pub data RoseForCall (call : Call) (holds : List ℕ → Held) (input : Option (List ℕ))
    (old new : ℕ) : Type 0 where
  read : HasCounted call holds old new → RoseForCall call holds input old new
  heard : On command.Live call holds (λ m. RoseHeard (session_on call.settings m) input old new)
      → RoseForCall call holds input old new

-- it rose as the searches of the call that the words spell make it
pub record RoseAsCalled (words : List (List ℕ)) (holds : List ℕ → Held) (input : Option (List ℕ))
    (old new : ℕ)
    : Type 0 where
  pub call : Call
  pub spelled : Spell words call
  pub counted : RoseForCall call holds input old new
