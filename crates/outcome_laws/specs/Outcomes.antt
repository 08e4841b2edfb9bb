-- That the outcome of a call is the only one, which engines print the same, and what is written where a call
-- stops.
use Rattle.std.specs.Prelude.{◌≡◌, ◌≢◌, ⊤, ◌⊎◌, ℕ, Bool, true, List, take, Ok, Option, Some}
use Rattle.std.specs.List.{concat}
use Rattle.io_edge.specs.Known.{Disk, Held, Inflow, Outflow, holding}
use Rattle.io_edge.specs.Whole.{AppendsSome}
use Rattle.map_text.specs.Map.{Map}
use Rattle.map_text.specs.Faults.{map_of}
use Rattle.word_list.specs.Kinds.{word_at}
use Rattle.word_list.specs.Request.{Asked, Call}
use Rattle.word_list.specs.Settings.{is_for_small_maps, jumps}
use Rattle.word_list.specs.declared.request.Pick.{Pick}
use Rattle.word_list.specs.declared.request.Show.{Show}
use Rattle.word_list.specs.declared.request.Settings.{Settings}
use Rattle.word_list.specs.declared.request.Show.TheVariants as show
use Rattle.word_list.specs.declared.rows.Command.{Command}
use Rattle.word_list.specs.declared.rows.Command.TheVariants.{Drill, Scen}
use Rattle.line_work.specs.Sending.{Wrote}
use Rattle.jps_run.specs.Manner.{manner_of}
use Rattle.jps_run.specs.Who.{replies_by}
use Rattle.call_files.specs.Kinds.{takes}
use Rattle.call_files.specs.declared.kind.Extent.TheVariants.{Small}
use Rattle.outcome_laws.specs.Files.{AreKnown}
use Rattle.jps_run.specs.Calls.{files_of, task}
use Rattle.jps_run.specs.Ending.{HasFailed, HasLines, HasPart}
use Rattle.jps_run.specs.Outcome.{IsOutcome, Outcome, Spell}
use Rattle.jps_run.specs.Standing.{StandFor}

-- of each file that the words name it is known what stands under its name
abbrev pub FilesAreKnown : List (List ℕ) → (List ℕ → Held) → Type 0
FilesAreKnown words holds = (call : Call) → Spell words call → AreKnown holds (files_of call)

-- Where the files and the input are known, words come to at most one outcome: one status, one output and one
-- line.
abbrev pub OutcomesAreOne : Type 0
OutcomesAreOne = (words : List (List ℕ)) (holds : List ℕ → Held) (script : List ℕ) (one other : Outcome)
    → FilesAreKnown words holds → IsOutcome replies_by words holds (Some script) one
    → IsOutcome replies_by words holds (Some script) other
    → one ≡ other

-- the engines that jump
abbrev pub is_jump : Pick → Bool
is_jump pick = jumps pick

-- two commands with their words ask for the same, however numbers are spelled: whatever the settings and the
-- table file, the same files are read, and the same is printed
pub record AskTheSame (one other : Asked) : Type 0 where
  pub command : one.command ≡ other.command
  pub files : (set : Settings) (tables : Option (List ℕ))
      → (task one.command one.words).files set tables ≡ (task other.command other.words).files set tables
  pub output : (set : Settings) (texts : List (List ℕ))
      → (task one.command one.words).output (manner_of replies_by set) texts
      ≡ (task other.command other.words).output (manner_of replies_by set) texts

-- two calls ask for the same, but that each may pick an engine of its own, and how many states of a cell its
-- search has
pub record DifferInEngine (call other : Call) : Type 0 where
  pub same : AskTheSame call.request other.request
  pub tables : call.request.tables ≡ other.request.tables
  pub show : call.settings.show ≡ other.settings.show
  pub rule : call.settings.rule ≡ other.settings.rule

-- Calls that differ in which of the engines `jps`, `block` and `plus` they pick come to the same outcome,
-- where their searches go by the same rule of states.
abbrev pub JumpEnginesPrintTheSame : Type 0
JumpEnginesPrintTheSame = (words others : List (List ℕ)) (call like : Call) (holds : List ℕ → Held)
    (script : List ℕ) (one other : Outcome) → AreKnown holds (files_of call)
    → Spell words call → Spell others like → DifferInEngine call like
    → is_jump call.settings.pick ≡ true → is_jump like.settings.pick ≡ true
    → call.settings.states ≡ like.settings.states
    → IsOutcome replies_by words holds (Some script) one
    → IsOutcome replies_by others holds (Some script) other → one ≡ other

-- a scenario is judged without its counts of taken states, or a drill is asked for
abbrev pub AsksForCosts : Command → Show → Type 0
AsksForCosts Scen shown = shown ≢ show.Taken
AsksForCosts Drill shown = ⊤
AsksForCosts other shown = ⊥

-- the text that is held is that of a small map, or of none
abbrev pub HoldsSmallMap : Held → Type 0
HoldsSmallMap held = (text : List ℕ) (m : Map) → held ≡ holding text → map_of text ≡ Ok m
    → takes Small m ≡ true

-- Of calls that ask for costs alone this is so for all engines, by either rule of states: of drills always,
-- and of scenarios where these engines take the same maps, or neither call is refused, or the text for the
-- map, which the first word names, is that of a small one, or of none.
abbrev pub EnginesPrintTheSameCosts : Type 0
EnginesPrintTheSameCosts = (words others : List (List ℕ)) (call like : Call) (holds : List ℕ → Held)
    (script : List ℕ) (one other : Outcome) → AreKnown holds (files_of call)
    → Spell words call → Spell others like → DifferInEngine call like
    → AsksForCosts call.request.command call.settings.show
    → (call.request.command ≡ Drill)
    ⊎ (is_for_small_maps call.settings.pick ≡ is_for_small_maps like.settings.pick)
    ⊎ ((one.status ≢ 3) × (other.status ≢ 3)) ⊎ HoldsSmallMap (holds (word_at call.request.words 0))
    → IsOutcome replies_by words holds (Some script) one
    → IsOutcome replies_by others holds (Some script) other → one ≡ other

-- the first ones of these lines were written, each whole
abbrev pub WroteLinesOf : List (List ℕ) → Outflow → Outflow → Type 0
WroteLinesOf lines before now = (count : ℕ) × Wrote before now (concat (take count lines))

-- of texts that stand for the lines of an outcome this holds; where memory is wanted for none,
-- they are the lines
pub record OfOutput (outcome : Outcome) (Such : List (List ℕ) → Type 0) : Type 0 where
  pub texts : List (List ℕ)
  pub stand : StandFor outcome.wants outcome.out texts
  pub such : Such texts

-- Where a call stops with no outcome, what it wrote is a first part of what stands for the output that its
-- words come to: of its bytes where a write failed; of its lines, each whole,
-- where a read failed or for want of memory.
abbrev pub WrittenBeginsTheOutput : Type 0
WrittenBeginsTheOutput = (words : List (List ℕ)) (disk disk_now : Disk) (input input_now : Inflow)
    (out out_now : Outflow) (script : List ℕ) (outcome : Outcome) → FilesAreKnown words disk.holds
    → input.left ≡ Some script → IsOutcome replies_by words disk.holds (Some script) outcome
    → (HasPart replies_by words disk.holds input input_now out out_now
    → OfOutput outcome (λ lines. AppendsSome out.written out_now.written (concat lines)))
    × (HasFailed replies_by words disk disk_now input input_now out out_now
    ⊎ HasLines replies_by words disk.holds input input_now out out_now
    → OfOutput outcome (λ lines. AppendsSome out.written out_now.written (concat lines)
    × WroteLinesOf lines out out_now))
