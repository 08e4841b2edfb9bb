-- How a call of `run` ends.
use Rattle.std.proofs.Common.{◌≡◌, ◌∙◌, true, false, refl, sym, ap, subst, List, [], ◌∷◌, ℕ, ◌≤◌, ◌⊎◌, inl}
use Rattle.std.proofs.Common.{inr, arith}
use Rattle.std.specs.Prelude.{Err, Ok, OnOk, Option, Result, Some, None, unwrap_or}
use Rattle.std.specs.Option.{option_map, option_map_or}
use Rattle.map_text.specs.Faults.{map_of}
use Rattle.map_text.specs.Map.{Map}
use Rattle.word_list.specs.declared.rows.Command.{Command}
use Rattle.word_list.specs.declared.rows.Command.TheVariants.{Live, Serve}
use Rattle.jps_run.specs.Heard.{IsInput}
use Rattle.jps_run.specs.Parts.{Output}
use Rattle.jps_run.specs.Manner.{manner_of}
use Rattle.io_edge.specs.Causes.{Rose}
use Rattle.io_edge.specs.Known.{Disk, Held, Inflow, Outflow}
use Rattle.word_list.specs.Calls.{is_call}
use Rattle.word_list.specs.Request.{Call}
use Rattle.word_list.specs.Rule.{IsBadWord}
use Rattle.jps_run.specs.Counting.{RoseAsCalled, RoseForCall}
use Rattle.jps_run.specs.Ending.{CanHear, Comes, EndsRight, Gets, HasFailed, HasLines, HasPart, InputRose}
use Rattle.jps_run.specs.Ending.{NamedRose, Fails, IsUnread, WroteFirstLines, WrotePart, ending_line}
use Rattle.jps_run.specs.Ending.{line_of, memory_line, read_line, status_of, write_line}
use Rattle.jps_run.specs.CallEnds.{EndsCall}
use Rattle.line_work.specs.declared.stop.Stop.{Stop}
use Rattle.line_work.specs.declared.stop.Stop.TheVariants as stop
use Rattle.call_files.specs.FaultLines.{word_line}
use Rattle.call_files.specs.Files.{HasRefused}
use Rattle.jps_run.specs.Live.{WroteHeard, answers_on}
use Rattle.jps_run.specs.Calls.{MayHear, files_of, output_of, reads_input, task}
use Rattle.jps_run.specs.Outcome.{Spell, IsOutput, bad_word, bad_text, done, outcome_hearing, outcome_of}
use Rattle.jps_run.specs.Outcome.{outcome_on, outcome_serving, outcome_with}
use Rattle.jps_run.specs.Serving.{WroteServed, serving_on}
use Rattle.line_work.specs.Sending.{IsAll, Wrote}
use Rattle.line_work.proofs.Pieces.{nothing}
use Rattle.jps_run.specs.Who.{replies_by}
use Rattle.jps_run.proofs.Existing.{replies_right}
use Rattle.jps_run.proofs.Opening.{value-read}

-- some script is what comes in
some-input : (input : Option (List ℕ)) → (script : List ℕ) × IsInput input script
some-input None = ([], tt)
some-input (Some left) = (left, refl)

-- what a call comes to that answers what comes in
pub outcome-heard : (call : Call) (text : List ℕ) (behind : List (List ℕ)) (m : Map) (input : List ℕ)
    → reads_input call.request.command ≡ true → map_of text ≡ Ok m
    → outcome_of replies_by call (text ∷ behind) input
    ≡ outcome_on call.request.command (manner_of replies_by call.settings) m input
unfolding outcome_of
outcome-heard call text behind m input reads spelled = rw reads (value-read (map_of text) m _ spelled)

-- so it is by one of these commands
pub outcome-by : (command : Command) (call : Call) (text : List ℕ) (behind : List (List ℕ))
    (m : Map) (input : List ℕ)
    → reads_input command ≡ true → call.request.command ≡ command → map_of text ≡ Ok m
    → outcome_of replies_by call (text ∷ behind) input
    ≡ outcome_on command (manner_of replies_by call.settings) m input
outcome-by command call text behind m input reads is spelled =
    outcome-heard call text behind m input (ap reads_input is ∙ reads) spelled
    ∙ ap (λ (c : Command). outcome_on c (manner_of replies_by call.settings) m input) is

-- and one that prints this
pub outcome-printed : (call : Call) (texts : List (List ℕ)) (script : List ℕ) (o : Output)
    → output_of replies_by call texts ≡ Some o
    → outcome_of replies_by call texts script ≡ Some (outcome_with o)
unfolding outcome_of output_of
outcome-printed call texts script o e =
    let off : reads_input call.request.command ≡ false = reads_none call.request.command e in
    rw off (ap (option_map outcome_with) e)
  where
    -- it does not read what comes in
    reads_none : (c : Command) → (task c call.request.words).output
        (manner_of replies_by call.settings) texts ≡ Some o → reads_input c ≡ false
    reads_none Live is = absurd (cc)
    reads_none Serve is = absurd (cc)
    reads_none other is = refl

module _ (words : List (List ℕ)) (holds : List ℕ → Held) (input : Option (List ℕ))
    (out out_now err err_now : Outflow)
  where
    -- the words are refused
    word-comes : (number status : ℕ) → IsBadWord is_call words number → (status ≡ 2) ⊎ (status ≡ 6)
        → (status ≡ 2 → Gets err err_now (word_line number)) → status ≤ 3
        → Comes replies_by words holds input out out err err_now status
    word-comes number status bad (inl two) printed few = record {
      outcome = record { status = 2; out = []; wants = []; line = word_line number };
      is = bad_word number bad;
      same_status = sym two;
      texts = [];
      stand = refl;
      wrote = nothing out.written;
      printed = printed two;
    }
    word-comes number status bad (inr six) printed few = absurd (omega arith)

    -- what came in was answered, and refused or not
    heard-comes : (call : Call) (refusal : Option (List ℕ)) → Spell words call
        → WroteHeard replies_by call holds out out_now input refusal → Gets err err_now (unwrap_or refusal [])
        → Comes replies_by words holds input out out_now err err_now (option_map_or (λ line. 3) refusal 0)
    heard-comes call refusal spelled h printed =
        let s = h.such.stand in
        record {
          outcome = outcome_hearing (answers_on (manner_of replies_by call.settings) h.read) s.script;
          is = done call (h.text ∷ h.behind) s.script _ spelled h.accepted s.comes
              (outcome-by Live call h.text h.behind h.read s.script refl h.is h.spelled);
          same_status = ap (λ (r : Option (List ℕ)). option_map_or (λ line. 3) r 0) (sym s.refused);
          texts = h.such.lines;
          stand = s.are;
          wrote = h.such.wrote;
          printed = subst (λ (r : Option (List ℕ)). Gets err err_now (unwrap_or r [])) s.refused printed;
        }

    -- the lines that came in were answered
    served-comes : (call : Call) → Spell words call → WroteServed replies_by call holds out out_now input
        → Gets err err_now [] → Comes replies_by words holds input out out_now err err_now 0
    served-comes call spelled h printed =
        let s = h.such.stand in
        record {
          outcome = outcome_serving (serving_on (manner_of replies_by call.settings) h.read) s.text;
          is = done call (h.text ∷ h.behind) s.text _ spelled h.accepted s.comes
              (outcome-by Serve call h.text h.behind h.read s.text refl h.is h.spelled);
          same_status = refl;
          texts = h.such.lines;
          stand = s.serve;
          wrote = h.such.wrote;
          printed = printed;
        }

    -- the call was done
    call-comes : (call : Call) (status : ℕ) → Spell words call
        → IsAll (IsOutput replies_by call holds) out out_now status
        ⊎ ((status ≡ 0) × (WroteHeard replies_by call holds out out_now input None
        ⊎ WroteServed replies_by call holds out out_now input)) → Gets err err_now []
        → Comes replies_by words holds input out out_now err err_now status
    call-comes call status spelled (inl a) printed =
        let script = some-input input in
        record {
          outcome = record { status = status; out = a.lines; wants = []; line = [] };
          is = done call a.whole.texts script.0 _ spelled a.whole.accepted script.1
              (outcome-printed call a.whole.texts script.0 _ a.whole.answered);
          same_status = refl;
          texts = a.lines;
          stand = refl;
          wrote = a.wrote;
          printed = printed;
        }
    call-comes call status spelled (inr h) printed =
        subst (λ (n : ℕ). Comes replies_by words holds input out out_now err err_now n) (sym h.0)
        (by_lines h.1)
      where
        by_lines : WroteHeard replies_by call holds out out_now input None
            ⊎ WroteServed replies_by call holds out out_now input
            → Comes replies_by words holds input out out_now err err_now 0
        by_lines (inl w) = heard-comes call None spelled w printed
        by_lines (inr w) = served-comes call spelled w printed

    -- a text is refused, or what comes in
    text-comes : (call : Call) (line : List ℕ) → Spell words call
        → (HasRefused holds (files_of call) line × Wrote out out_now [])
        ⊎ WroteHeard replies_by call holds out out_now input (Some line)
        → Gets err err_now line → Comes replies_by words holds input out out_now err err_now 3
    text-comes call line spelled (inl r) printed = record {
      outcome = record { status = 3; out = []; wants = []; line = line };
      is = bad_text call line spelled r.0;
      same_status = refl;
      texts = [];
      stand = refl;
      wrote = r.1;
      printed = printed;
    }
    text-comes call line spelled (inr h) printed = heard-comes call (Some line) spelled h printed

-- what is known of a call of `run` that ended with this status
pub record EndsAs (words : List (List ℕ)) (disk disk_now : Disk) (input input_now : Inflow)
    (out out_now err err_now : Outflow) (old new status : ℕ) : Type 0 where
  pub statuses : status ≤ 6
  pub outcome : status ≤ 3 → Comes replies_by words disk.holds input.left out out_now err err_now status
  pub read : status ≡ 4 → HasFailed replies_by words disk disk_now input input_now out out_now
  pub write : status ≡ 5 → Rose out.faults out_now.faults
  pub part : status ≡ 5 → HasPart replies_by words disk.holds input input_now out out_now
  pub memory : status ≡ 6 → HasLines replies_by words disk.holds input input_now out out_now
  pub line : 4 ≤ status → Gets err err_now (ending_line status)
  pub complete : (NamedRose words disk disk_now → ⊥) → (InputRose words input input_now → ⊥)
      → (Rose out.faults out_now.faults → ⊥) → (status ≤ 3) ⊎ (status ≡ 6)
  pub unchanged : disk_now.holds ≡ disk.holds
  pub counted : status ≤ 1 → RoseAsCalled words disk.holds input.left old new
  pub input_stays : (CanHear words disk.holds → ⊥) → input_now.left ≡ input.left

-- the words were refused
pub word-ends : (words : List (List ℕ)) (disk : Disk) (input : Inflow) (out err err_now : Outflow)
    (steps number status : ℕ) → IsBadWord is_call words number → (status ≡ 2) ⊎ (status ≡ 6)
    → (status ≡ 2 → Gets err err_now (word_line number)) → (status ≡ 6 → Gets err err_now (ending_line 6))
    → EndsAs words disk disk input input out out err err_now steps steps status
word-ends words disk input out err err_now steps number status bad (inl two) printed memory = record {
  statuses = omega arith;
  outcome = word-comes words disk.holds input.left out out err err_now number status bad (inl two) printed;
  read = λ e. absurd (omega arith);
  write = λ e. absurd (omega arith);
  part = λ e. absurd (omega arith);
  memory = λ e. absurd (omega arith);
  line = λ e. absurd (omega arith);
  complete = λ named read wrote. inl (omega arith);
  unchanged = refl;
  counted = λ few. absurd (omega arith);
  input_stays = λ not. refl;
}
word-ends words disk input out err err_now steps number status bad (inr six) printed memory = record {
  statuses = omega arith;
  outcome = λ few. absurd (omega arith);
  read = λ e. absurd (omega arith);
  write = λ e. absurd (omega arith);
  part = λ e. absurd (omega arith);
  memory = λ e. inl (nothing out.written, λ call spelled serve. refl);
  line = λ e. subst (λ n. Gets err err_now (ending_line n)) (sym six) (memory six);
  complete = λ named read wrote. inr six;
  unchanged = refl;
  counted = λ few. absurd (omega arith);
  input_stays = λ not. refl;
}

module _ (words : List (List ℕ)) (disk disk_now : Disk) (input input_now : Inflow)
    (out out_now err err_now : Outflow) (old new : ℕ) (call : Call) (spelled : Spell words call)
    (unchanged : disk_now.holds ≡ disk.holds)
    (stays : (MayHear call disk.holds → ⊥) → input_now.left ≡ input.left) where
  stays-so : (CanHear words disk.holds → ⊥) → input_now.left ≡ input.left
  stays-so not = stays (λ may. not (record { call = call; spelled = spelled; such = may }))

  -- the call was done
  done-ends : (status : ℕ) → (status ≤ 1) × (IsAll (IsOutput replies_by call disk.holds) out out_now status
      ⊎ ((status ≡ 0) × (WroteHeard replies_by call disk.holds out out_now input.left None
      ⊎ WroteServed replies_by call disk.holds out out_now input.left)))
      → Gets err err_now []
      → RoseForCall call disk.holds input.left old new
      → EndsAs words disk disk_now input input_now out out_now err err_now old new status
  done-ends status served printed rose = let small : status ≤ 1 = served.0 in record {
    statuses = omega arith;
    outcome = λ few. call-comes words disk.holds input.left out out_now err err_now call status spelled
        served.1 printed;
    read = λ e. absurd (omega arith);
    write = λ e. absurd (omega arith);
    part = λ e. absurd (omega arith);
    memory = λ e. absurd (omega arith);
    line = λ e. absurd (omega arith);
    complete = λ named read wrote. inl (omega arith);
    unchanged = unchanged;
    counted = λ few. record { call = call; spelled = spelled; counted = rose };
    input_stays = stays-so;
  }

  -- a text was refused, or what came in
  text-ends : (line : List ℕ) → (HasRefused disk.holds (files_of call) line × Wrote out out_now [])
      ⊎ WroteHeard replies_by call disk.holds out out_now input.left (Some line) → Gets err err_now line
      → EndsAs words disk disk_now input input_now out out_now err err_now old new 3
  text-ends line served printed = record {
    statuses = omega arith;
    outcome = λ few. text-comes words disk.holds input.left out out_now err err_now call line spelled
        served printed;
    read = λ e. absurd (omega arith);
    write = λ e. absurd (omega arith);
    part = λ e. absurd (omega arith);
    memory = λ e. absurd (omega arith);
    line = λ e. absurd (omega arith);
    complete = λ named read wrote. inl (omega arith);
    unchanged = unchanged;
    counted = λ few. absurd (omega arith);
    input_stays = stays-so;
  }

  one-rose : Fails replies_by disk.holds input input_now out out_now disk disk_now call
      → (NamedRose words disk disk_now → ⊥) → (InputRose words input input_now → ⊥) → ⊥
  one-rose (inl f) named heard = named (record { call = call; spelled = spelled; such = f.0 })
  one-rose (inr f) named heard = heard (record { call = call; spelled = spelled; such = f.0 })

  -- a read failed
  read-ends : Fails replies_by disk.holds input input_now out out_now disk disk_now call
      → Gets err err_now read_line
      → EndsAs words disk disk_now input input_now out out_now err err_now old new 4
  read-ends served printed = record {
    statuses = omega arith;
    outcome = λ few. absurd (omega arith);
    read = λ e. record { call = call; spelled = spelled; such = served };
    write = λ e. absurd (omega arith);
    part = λ e. absurd (omega arith);
    memory = λ e. absurd (omega arith);
    line = λ e. printed;
    complete = λ named heard wrote. absurd (one-rose served named heard);
    unchanged = unchanged;
    counted = λ few. absurd (omega arith);
    input_stays = stays-so;
  }

  -- a write failed
  write-ends : Rose out.faults out_now.faults
      × WrotePart replies_by disk.holds input input_now out out_now call
      → Gets err err_now write_line
      → EndsAs words disk disk_now input input_now out out_now err err_now old new 5
  write-ends served printed = record {
    statuses = omega arith;
    outcome = λ few. absurd (omega arith);
    read = λ e. absurd (omega arith);
    write = λ e. served.0;
    part = λ e. record { call = call; spelled = spelled; such = served.1 };
    memory = λ e. absurd (omega arith);
    line = λ e. printed;
    complete = λ named read wrote. absurd (wrote served.0);
    unchanged = unchanged;
    counted = λ few. absurd (omega arith);
    input_stays = stays-so;
  }

  -- memory was refused
  memory-ends : (Wrote out out_now [] × IsUnread input input_now call)
      ⊎ WroteFirstLines replies_by disk.holds input input_now out out_now call
      → Gets err err_now memory_line
      → EndsAs words disk disk_now input input_now out out_now err err_now old new 6
  memory-ends served printed = record {
    statuses = omega arith;
    outcome = λ few. absurd (omega arith);
    read = λ e. absurd (omega arith);
    write = λ e. absurd (omega arith);
    part = λ e. absurd (omega arith);
    memory = λ e. by_lines served;
    line = λ e. printed;
    complete = λ named read wrote. inr refl;
    unchanged = unchanged;
    counted = λ few. absurd (omega arith);
    input_stays = stays-so;
  }
    where
      by_lines : (Wrote out out_now [] × IsUnread input input_now call)
          ⊎ WroteFirstLines replies_by disk.holds input input_now out out_now call
          → HasLines replies_by words disk.holds input input_now out out_now
      by_lines (inl nothing) = inl (
        nothing.0,
        λ other spells. subst (IsUnread input input_now)
            (ap (λ (o : Option Call). unwrap_or o call) (sym spelled ∙ spells)) nothing.1,
      )
      by_lines (inr lines) = inr (record { call = call; spelled = spelled; such = lines })

  -- so each call ends
  pub call-ends : (result : Result ℕ Stop) (status : ℕ)
      → EndsCall call disk disk_now input input_now out out_now result
      → OnOk result (RoseForCall call disk.holds input.left old new) → status ≡ status_of result
      → Gets err err_now (line_of result)
      → EndsAs words disk disk_now input input_now out out_now err err_now old new status
  call-ends result status served rose e printed =
      subst (λ (n : ℕ). EndsAs words disk disk_now input input_now out out_now err err_now old new n) (sym e)
      (by_result result served rose printed)
    where
      by_result : (result : Result ℕ Stop) → EndsCall call disk disk_now input input_now out out_now result
          → OnOk result (RoseForCall call disk.holds input.left old new) → Gets err err_now (line_of result)
          → EndsAs words disk disk_now input input_now out out_now err err_now old new (status_of result)
      by_result (Ok status) served rose printed = done-ends status served printed rose
      by_result (Err (stop.Text line)) served rose printed = text-ends line.items served printed
      by_result (Err stop.Read) served rose printed = read-ends served printed
      by_result (Err stop.Write) served rose printed = write-ends served printed
      by_result (Err stop.Memory) served rose printed = memory-ends served printed

-- and by right replies
pub rightly : {words : List (List ℕ)} {disk disk_now : Disk} {input input_now : Inflow}
    {out out_now err err_now : Outflow} {old new status : ℕ}
    → EndsAs words disk disk_now input input_now out out_now err err_now old new status
    → EndsRight words disk disk_now input input_now out out_now err err_now status
rightly ends = record {
  replies = replies_by;
  right = replies_right;
  outcome = ends.outcome;
  read = ends.read;
  part = ends.part;
  memory = ends.memory;
}
