-- That a call comes to an outcome at all.
use Rattle.std.specs.Prelude.{◌≡◌, ⊤, ◌⊎◌, ℕ, false, List, [], ◌∷◌, Some}
use Rattle.io_edge.specs.Known.{Held, holding}
use Rattle.word_list.specs.Calls.{is_call}
use Rattle.word_list.specs.Request.{Call}
use Rattle.word_list.specs.Rule.{IsBadWord}
use Rattle.call_files.specs.Files.{AreAccepted, File, HasRefused}
use Rattle.jps_run.specs.Calls.{files_of}
use Rattle.jps_run.specs.Outcome.{IsOutcome, Outcome, Spell}
use Rattle.jps_run.specs.Who.{replies_by}

-- words that spell no call have a bad word
abbrev pub BadWordsExist : Type 0
BadWordsExist = (words : List (List ℕ)) → is_call words ≡ false
    → (number : ℕ) × IsBadWord is_call words number

-- under the name of each of the files stands a file
abbrev pub ArePresent : (List ℕ → Held) → List File → Type 0
ArePresent holds [] = ⊤
ArePresent holds (file ∷ files) = ((bytes : List ℕ) × (holds file.name ≡ holding bytes))
    × ArePresent holds files

-- files that are present are all accepted in turn, or one is the first refused
abbrev pub AcceptedOrRefusedExist : Type 0
AcceptedOrRefusedExist = (holds : List ℕ → Held) (files : List File) → ArePresent holds files
    → ((texts : List (List ℕ)) × AreAccepted holds [] files texts)
    ⊎ ((line : List ℕ) × HasRefused holds files line)

-- Where words spell no call, they come to an outcome; where they spell one, they do if its files are all
-- present. The input is known.
abbrev pub OutcomesExist : Type 0
OutcomesExist = (words : List (List ℕ)) (holds : List ℕ → Held) (script : List ℕ)
    → ((call : Call) → Spell words call → ArePresent holds (files_of call))
    → (outcome : Outcome) × IsOutcome replies_by words holds (Some script) outcome
