-- What is to be judged, as files hold it.
use Rattle.std.specs.Prelude.{ℕ, List, [], ◌∷◌, length}
use Rattle.io_edge.specs.Known.{Held}
use Rattle.call_files.specs.Files.{AreAccepted, file_of}
use Rattle.call_files.specs.Reading.{AreLayersOf, IsMade, SpellsScen, SpellsWalks}
use Rattle.call_files.specs.declared.kind.TextKind.TheVariants as kinds
use Rattle.jps_run.specs.declared.replies.case.Case.{Case}
use Rattle.word_list.specs.declared.request.Settings.{Settings}

-- the files hold a map, a scenario behind it and behind both what is claimed of each entry, which were read
-- so
pub record IsCaseOf (set : Settings) (holds : List ℕ → Held) (map scen claimed : List ℕ)
    (case : Case) : Type 0 where
  pub text : List ℕ
  pub second : List ℕ
  pub third : List ℕ
  pub accepted : AreAccepted holds []
      (file_of kinds.Map map ∷ file_of kinds.Scen scen ∷ file_of kinds.Walks claimed ∷ [])
      (text ∷ second ∷ third ∷ [])
  pub costs : IsMade (AreLayersOf set) text case.costs
  pub entries : SpellsScen second case.entries
  pub walks : SpellsWalks (length case.entries.items) third case.walks
