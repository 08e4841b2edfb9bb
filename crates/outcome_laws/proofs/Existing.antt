-- Calls come to an outcome.
use Rattle.std.proofs.Common.{◌≡◌, ◌∙◌, ◌⊎◌, inl, inr, refl, ap, subst, ℕ, Bool, true, false, List, [], ◌++◌}
use Rattle.std.specs.Prelude.{Option, Some, None, is_some}
use Rattle.io_edge.specs.Known.{Held}
use Rattle.word_list.specs.Calls.{call_of, is_call}
use Rattle.word_list.specs.Kinds.{word_at}
use Rattle.word_list.specs.Request.{Call}
use Rattle.word_list.specs.declared.rows.Command.{Command}
use Rattle.word_list.specs.declared.rows.Command.TheVariants.{Live, Serve}
use Rattle.call_files.specs.FaultLines.{word_line}
use Rattle.call_files.specs.Files.{AreAccepted, File, HasRefused}
use Rattle.call_files.specs.MapFiles.{map_files}
use Rattle.map_text.specs.Map.{Map}
use Rattle.word_list.specs.declared.request.Settings.{Settings}
use Rattle.jps_run.specs.Calls.{files_of, output_of, reads_input, task}
use Rattle.jps_run.specs.Outcome.{IsOutcome, Outcome, Spell, bad_text, bad_word, done, outcome_of}
use Rattle.jps_run.specs.Outcome.{outcome_on, outcome_with}
use Rattle.jps_run.specs.Parts.{Output}
use Rattle.jps_run.specs.Manner.{Manner, manner_of}
use Rattle.jps_run.specs.Who.{replies_by}
use Rattle.jps_run.proofs.Ended.{outcome-heard, outcome-printed}
use Rattle.outcome_laws.specs.Existing.{ArePresent}
use Rattle.outcome_laws.proofs.Commands.{has_output, with_tables}
use Rattle.outcome_laws.proofs.Refusing.{accepted_or_refused, bad_word_exists}

-- a command that reads the input reads a map, with a table file where one is named,
-- and answers on it what comes in
reads_map : (command : Command) (words : List (List ℕ)) (set : Settings) (tables : Option (List ℕ))
    → reads_input command ≡ true → (task command words).files set tables
    ≡ map_files set (word_at words 0) tables
reads_map Live words set tables reads = refl
reads_map Serve words set tables reads = refl
reads_map other words set tables reads = absurd (cc)

answers_input : (command : Command) (manner : Manner) (m : Map) (input : List ℕ) → reads_input command ≡ true
    → (outcome : Outcome) × (outcome_on command manner m input ≡ Some outcome)
answers_input Live manner m input reads = (_, refl)
answers_input Serve manner m input reads = (_, refl)
answers_input other manner m input reads = absurd (cc)

-- what the task of a call prints is its output
output_is : (call : Call) (texts : List (List ℕ)) (o : Output)
    → (task call.request.command call.request.words).output
    (manner_of replies_by call.settings) texts ≡ Some o
    → output_of replies_by call texts ≡ Some o
unfolding output_of
output_is call texts o e = e

abbrev HasOutcome : List (List ℕ) → (List ℕ → Held) → List ℕ → Type 0
HasOutcome words holds script = (outcome : Outcome) × IsOutcome replies_by words holds (Some script) outcome

module _ (words : List (List ℕ)) (holds : List ℕ → Held) (script : List ℕ) where
  -- the files of the call are accepted
  call_ends : (call : Call) → Spell words call → (texts : List (List ℕ))
      → AreAccepted holds [] (files_of call) texts → HasOutcome words holds script
  call_ends call spelled texts p = by_input (reads_input call.request.command) refl
    where
      by_input : (b : Bool) → reads_input call.request.command ≡ b → HasOutcome words holds script
      by_input true reads =
          let h = with_tables holds call.settings (word_at call.request.words 0) call.request.tables texts
          (subst (λ (files : List File). AreAccepted holds [] files texts)
          (reads_map call.request.command call.request.words call.settings call.request.tables reads) p) in
          let o = answers_input call.request.command (manner_of replies_by call.settings)
          h.map script reads in (
            o.0,
            done call texts script o.0 spelled p refl
                (ap (λ (ts : List (List ℕ)). outcome_of replies_by call ts script) h.is
                ∙ outcome-heard call h.text (h.loaded ++ h.more) h.map script reads h.read ∙ o.1),
          )
      by_input false silent =
          let o = has_output holds call.settings call.request.command call.request.words call.request.tables
          (manner_of replies_by call.settings) texts p silent in (
            outcome_with o.0,
            done call texts script (outcome_with o.0) spelled p refl
                (outcome-printed call texts script o.0 (output_is call texts o.0 o.1)),
          )

  refused_ends : (call : Call) → Spell words call → (line : List ℕ) → HasRefused holds (files_of call) line
      → HasOutcome words holds script
  refused_ends call spelled line p =
      (record { status = 3; out = []; wants = []; line = line }, bad_text call line spelled p)

  files_end : (call : Call) → Spell words call
      → ((texts : List (List ℕ)) × AreAccepted holds [] (files_of call) texts)
      ⊎ ((line : List ℕ) × HasRefused holds (files_of call) line) → HasOutcome words holds script
  files_end call spelled (inl (texts, p)) = call_ends call spelled texts p
  files_end call spelled (inr (line, p)) = refused_ends call spelled line p

  spelled_ends : (call : Call) → Spell words call → ArePresent holds (files_of call)
      → HasOutcome words holds script
  spelled_ends call spelled present =
      files_end call spelled (accepted_or_refused holds (files_of call) present)

  refused_words : call_of words ≡ None → is_call words ≡ false
  unfolding is_call
  refused_words none = ap (λ (o : Option Call). is_some o) none

pub outcomes_exist : (words : List (List ℕ)) (holds : List ℕ → Held) (script : List ℕ)
    → ((call : Call) → Spell words call → ArePresent holds (files_of call))
    → (outcome : Outcome) × IsOutcome replies_by words holds (Some script) outcome
outcomes_exist words holds script can = by_call (call_of words) refl
  where
    by_call : (o : Option Call) → call_of words ≡ o → HasOutcome words holds script
    by_call None e =
        let bad = bad_word_exists words (refused_words words holds script e) in
        (record { status = 2; out = []; wants = []; line = word_line bad.0 }, bad_word bad.0 bad.1)
    by_call (Some call) e = spelled_ends words holds script call e (can call e)
