-- That a table file changes nothing of what a call comes to.
use Rattle.std.specs.Prelude.{◌≡◌, ℕ, List, [], ◌∷◌, Option, Some, None, ◌≢◌}
use Rattle.grid_moves.specs.declared.Corner.{Corner}
use Rattle.io_edge.specs.Known.{Held, unknown}
use Rattle.word_list.specs.Kinds.{word_at}
use Rattle.word_list.specs.Request.{Call}
use Rattle.call_files.specs.Files.{IsAccepted}
use Rattle.call_files.specs.declared.kind.TextKind.TheVariants as kind
use Rattle.jps_run.specs.Outcome.{IsOutcome, Outcome, Spell}
use Rattle.outcome_laws.specs.Outcomes.{AskTheSame}
use Rattle.jps_run.specs.Who.{replies_by}

-- the first call names this table file, and the second asks for the same without it
pub record DifferInTables (tables : List ℕ) (call other : Call) : Type 0 where
  pub same : AskTheSame call.request other.request
  pub named : call.request.tables ≡ Some tables
  pub unnamed : other.request.tables ≡ None
  pub settings : call.settings ≡ other.settings

-- it is known what the table file holds, and that is accepted behind the text of the map, if this one is
-- accepted: it is of this map and under this rule; so the map is known, or absent, as one that is not known
-- may hold any text
pub record AreTablesOf (holds : List ℕ → Held) (rule : Corner) (map tables : List ℕ) : Type 0 where
  pub known : holds tables ≢ unknown
  pub loaded : List ℕ
  pub accepted : (text : List ℕ) → IsAccepted [] kind.Map (holds map) text
      → IsAccepted (text ∷ []) (kind.Tables rule) (holds tables) loaded

-- A call that names an accepted table file beside its map, which its first word names, comes to what the call
-- without it comes to, and to nothing else, whatever else is known.
abbrev pub WithTablesTheSame : Type 0
WithTablesTheSame = (words others : List (List ℕ)) (call like : Call) (tables : List ℕ)
    (holds : List ℕ → Held) (input : Option (List ℕ)) (outcome : Outcome)
    → Spell words call → Spell others like → DifferInTables tables call like
    → AreTablesOf holds call.settings.rule (word_at call.request.words 0) tables
    → (IsOutcome replies_by words holds input outcome → IsOutcome replies_by others holds input outcome)
    × (IsOutcome replies_by others holds input outcome → IsOutcome replies_by words holds input outcome)
