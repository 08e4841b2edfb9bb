-- What a call wrote that stopped with no outcome begins the one output.
use Rattle.std.proofs.Common.{◌≡◌, ◌∙◌, refl, ap, sym, subst, ℕ, ◌≤◌, ◌⊎◌, inl, inr, arith}
use Rattle.std.proofs.Common.{List, [], ◌∷◌, ◌++◌, append_assoc, length, take, drop}
use Rattle.std.specs.Prelude.{Option, Some, true}
use Rattle.std.specs.Io.KnownBytes.{Consumes}
use Rattle.std.specs.List.{concat}
use Rattle.std.proofs.Math.Seq.{take-append_seam, take-length}
use Rattle.std.proofs.lemmas.List.{take-append-drop}
use Rattle.std.proofs.lemmas.List.Folds.{concat-append}
use Rattle.io_edge.specs.Known.{Disk, Held, Inflow, Outflow}
use Rattle.io_edge.specs.Whole.{AppendsSome}
use Rattle.map_text.specs.Map.{Map}
use Rattle.word_list.specs.Request.{Call}
use Rattle.word_list.specs.declared.rows.Command.{Command}
use Rattle.word_list.specs.declared.rows.Command.TheVariants.{Live, Serve}
use Rattle.line_feed.specs.declared.feed.FedLine.{FedLine}
use Rattle.line_feed.specs.Fed.{whole_lines}
use Rattle.line_work.specs.Sending.{Wrote}
use Rattle.line_work.proofs.Pieces.{part-more}
use Rattle.jps_run.specs.Heard.{AnswerTaken, WroteAll, heard_commands}
use Rattle.outcome_laws.specs.Alike.{BeginWith}
use Rattle.outcome_laws.proofs.Taken.{pending_taken, taken_begins}
use Rattle.outcome_laws.proofs.ServedLines.{served_begin}
use Rattle.outcome_laws.specs.Files.{AreKnown}
use Rattle.outcome_laws.proofs.Files.{not_both, one_list}
use Rattle.jps_run.specs.Calls.{files_of, reads_input}
use Rattle.jps_run.specs.Ending.{Fails, HasFailed, HasLines, HasPart, WroteFirstLines, WrotePart}
use Rattle.outcome_laws.specs.Outcomes.{FilesAreKnown, OfOutput, WrittenBeginsTheOutput, WroteLinesOf}
use Rattle.jps_run.specs.Live.{On, answers_on}
use Rattle.jps_run.specs.Outcome.{IsOutcome, IsOutput, Outcome, Spell, done, outcome_hearing, outcome_of}
use Rattle.jps_run.specs.Outcome.{outcome_on, outcome_serving}
use Rattle.jps_run.specs.Serving.{AreTaken, ServeLines, ServeWhole, serving_on, so_far}
use Rattle.jps_run.specs.Standing.{StandFor}
use Rattle.call_files.specs.Layered.{grids_under}
use Rattle.jps_run.specs.Manner.{manner_of}
use Rattle.jps_run.specs.Who.{replies_by}
use Rattle.jps_run.specs.Answers.{answer_lines}
use Rattle.jps_run.proofs.Ended.{outcome-by, outcome-printed}
use Rattle.jps_run.proofs.Opening.{on-map}
use Rattle.jps_run.proofs.Serving.{stand-same}
use Rattle.outcome_laws.proofs.Only.{CallComes, call_comes, finished, outcomes_one, refused, same_value}

-- the first ones of these lines begin them
begin-by : (count : ℕ) (lines : List (List ℕ)) → BeginWith lines (take count lines)
begin-by count lines = (drop count lines, sym (take-append-drop count lines))

begin-then : (all lines few : List (List ℕ)) → BeginWith all lines → BeginWith lines few → BeginWith all few
begin-then all lines few p q =
    (q.0 ++ p.0, p.1 ∙ ap (λ (l : List (List ℕ)). l ++ p.0) q.1 ∙ append_assoc few q.0 p.0)

part-begun : (before now : Outflow) (all lines : List (List ℕ)) → BeginWith all lines
    → AppendsSome before.written now.written (concat lines)
    → AppendsSome before.written now.written (concat all)
part-begun before now all lines begun h =
    subst (λ (l : List ℕ). AppendsSome before.written now.written l)
    (sym (ap concat begun.1 ∙ concat-append lines begun.0))
    (part-more before.written now.written (concat lines) (concat begun.0) h)

part-all : (before now : Outflow) (bytes : List ℕ) → Wrote before now bytes
    → AppendsSome before.written now.written bytes
part-all before now bytes h = (
  length bytes,
  (let e : length bytes ≤ length bytes = omega arith in e),
  subst (λ (l : List ℕ). Wrote before now l) (sym (take-length bytes)) h,
)

-- lines that begin what stands for the output were written
record Begun (before now : Outflow) (outcome : Outcome) : Type 0 where
  texts : List (List ℕ)
  stand : StandFor outcome.wants outcome.out texts
  lines : List (List ℕ)
  begun : BeginWith texts lines
  wrote : Wrote before now (concat lines)

-- lines that begin the output were
begun-so : (before now : Outflow) (outcome : Outcome) (lines : List (List ℕ)) → BeginWith outcome.out lines
    → Wrote before now (concat lines) → Begun before now outcome
begun-so before now outcome lines begun wrote = record {
  texts = outcome.out;
  stand = stand-same outcome.wants outcome.out;
  lines = lines;
  begun = begun;
  wrote = wrote;
}

-- so what was written is a first part of that, and its first lines
so_begun : (before now : Outflow) (outcome : Outcome) → Begun before now outcome
    → OfOutput outcome (λ lines. AppendsSome before.written now.written (concat lines)
    × WroteLinesOf lines before now)
so_begun before now outcome b = record {
  texts = b.texts;
  stand = b.stand;
  such = (
    part-begun before now b.texts b.lines b.begun (part-all before now (concat b.lines) b.wrote),
    (
      length b.lines,
      subst (λ (ls : List (List ℕ)). Wrote before now (concat ls))
          (sym (ap (λ (ls : List (List ℕ)). take (length b.lines) ls) b.begun.1
          ∙ take-append_seam b.lines b.begun.0)) b.wrote,
    ),
  );
}

-- what a call comes to that reads the input
module _ (holds : List ℕ → Held) (script : List ℕ) (command : Command) (call : Call)
    (known : AreKnown holds (files_of call)) {Such : Map → Type 0} (p : On command call holds Such)
    (reads : reads_input command ≡ true) (outcome : Outcome) where
  comes_to : CallComes call holds (Some script) outcome
      → outcome_on command (manner_of replies_by call.settings) p.read script ≡ Some outcome
  comes_to comes = by_call outcome comes
    where
      by_call : (outcome : Outcome) → CallComes call holds (Some script) outcome
          → outcome_on command (manner_of replies_by call.settings) p.read script ≡ Some outcome
      by_call _ (refused line r) =
          absurd (not_both holds (files_of call) (p.text ∷ p.behind) line known p.accepted r)
      by_call _ (finished texts heard outcome q comes e) =
          sym (outcome-by command call p.text p.behind p.read script reads p.is p.spelled)
          ∙ ap (λ (ts : List (List ℕ)). outcome_of replies_by call ts script)
          (one_list holds (files_of call) (p.text ∷ p.behind) texts known p.accepted q)
          ∙ ap (λ (s : List ℕ). outcome_of replies_by call texts s) (sym comes) ∙ e

module _ (words : List (List ℕ)) (holds : List ℕ → Held) (input input_now : Inflow) (out out_now : Outflow)
    (script : List ℕ) (outcome : Outcome) (known : FilesAreKnown words holds)
    (comes_in : input.left ≡ Some script) (is : IsOutcome replies_by words holds (Some script) outcome) where
  -- the output of a call by its files alone is that of the outcome
  output_one : (call : Call) → Spell words call → (lines : List (List ℕ)) (status : ℕ)
      → IsOutput replies_by call holds lines status → lines ≡ outcome.out
  output_one call spelled lines status right =
      ap (λ (o : Outcome). o.out)
      (outcomes_one words holds script (record { status = status; out = lines; wants = []; line = [] })
      outcome known (done call right.texts script _ spelled right.accepted refl
      (outcome-printed call right.texts script _ right.answered)) is)

  outcome_is : (command : Command) (call : Call) → Spell words call → {Such : Map → Type 0}
      → (p : On command call holds Such) → reads_input command ≡ true
      → outcome_on command (manner_of replies_by call.settings) p.read script ≡ Some outcome
  outcome_is command call spelled p reads =
      comes_to holds script command call (known call spelled) p reads outcome
      (call_comes words holds (Some script) call outcome spelled is)

  -- what `live` answered begins all that it answers
  taken_begins_all : {Such : Map → Type 0} (call : Call) → Spell words call
      → (p : On Live call holds Such) → (lines : List (List ℕ))
      → AnswerTaken (answers_on (manner_of replies_by call.settings) p.read) input.left input_now.left lines
      → BeginWith outcome.out lines
  taken_begins_all call spelled p lines taken =
      let manner = manner_of replies_by call.settings in
      let begun : BeginWith (answer_lines manner.session manner.show (grids_under manner.rule p.read)
      (heard_commands script)) lines
      = taken_begins manner.session manner.show (grids_under manner.rule p.read) script input_now.left lines
      (subst (λ (text : Option (List ℕ)). AnswerTaken (answers_on manner p.read) text input_now.left lines)
      comes_in taken) in
      let heard = outcome_hearing (answers_on manner p.read) script in
      subst (λ (o : Outcome). BeginWith o.out lines)
      (same_value heard outcome (outcome_on Live manner p.read script) refl
      (outcome_is Live call spelled p refl)) begun

  -- and what stands for answers of `serve` what stands for all
  served_begins_all : {Such : Map → Type 0} (call : Call) → Spell words call
      → (p : On Serve call holds Such) → (taken : List ℕ) (lines : List FedLine) (texts : List (List ℕ))
      → Consumes input.left input_now.left taken → AreTaken input_now.left taken lines
      → ServeLines (serving_on (manner_of replies_by call.settings) p.read) lines texts
      → (more : List (List ℕ)) × StandFor outcome.wants outcome.out (texts ++ more)
  served_begins_all call spelled p taken lines texts consumed are serve =
      let manner = manner_of replies_by call.settings in
      let begun = served_begin manner p.read script taken input_now.left lines texts
      (subst (λ (text : Option (List ℕ)). Consumes text input_now.left taken) comes_in consumed) are serve in
      let served = outcome_serving (serving_on manner p.read) script in (
        begun.0,
        subst (λ (o : Outcome). StandFor o.wants o.out (texts ++ begun.0))
            (same_value served outcome (outcome_on Serve manner p.read script) refl
            (outcome_is Serve call spelled p refl)) begun.1,
      )

  whole_begins : (call : Call) → Spell words call → On Serve call holds
      (λ m. WroteAll (ServeWhole (serving_on (manner_of replies_by call.settings) m) input.left input_now.left)
      out out_now) → Begun out out_now outcome
  whole_begins call spelled p =
      let s = p.such.stand in
      let all = served_begins_all call spelled p s.taken (whole_lines s.taken) p.such.lines
      s.consumed (so_far refl)
      s.serve in
      record {
        texts = p.such.lines ++ all.0;
        stand = all.1;
        lines = p.such.lines;
        begun = (all.0, refl);
        wrote = p.such.wrote;
      }

  part_begins : HasPart replies_by words holds input input_now out out_now
      → OfOutput outcome (λ lines. AppendsSome out.written out_now.written (concat lines))
  part_begins part = by_part part.such
    where
      by_part : WrotePart replies_by holds input input_now out out_now part.call
          → OfOutput outcome (λ lines. AppendsSome out.written out_now.written (concat lines))
      by_part (inl p) = record {
        texts = outcome.out;
        stand = stand-same outcome.wants outcome.out;
        such = subst (λ (lines : List (List ℕ)). AppendsSome out.written out_now.written (concat lines))
            (output_one part.call part.spelled p.lines p.status p.whole) p.wrote;
      }
      by_part (inr (inl p)) = record {
        texts = outcome.out;
        stand = stand-same outcome.wants outcome.out;
        such = part-begun out out_now outcome.out p.such.lines
            (taken_begins_all part.call part.spelled p p.such.lines p.such.stand) p.such.wrote;
      }
      by_part (inr (inr p)) =
          let s = p.such.stand in
          let all = served_begins_all part.call part.spelled p s.taken s.lines p.such.lines
          s.consumed s.are s.serve in
          record {
            texts = p.such.lines ++ all.0;
            stand = all.1;
            such = part-begun out out_now (p.such.lines ++ all.0) p.such.lines (all.0, refl) p.such.wrote;
          }

  lines_begin : HasLines replies_by words holds input input_now out out_now → Begun out out_now outcome
  lines_begin (inl h) = begun-so out out_now outcome [] (outcome.out, refl) h.0
  lines_begin (inr lines) = by_lines lines.such
    where
      by_lines : WroteFirstLines replies_by holds input input_now out out_now lines.call
          → Begun out out_now outcome
      by_lines (inl p) = begun-so out out_now outcome (take p.count p.lines)
          (subst (λ (all : List (List ℕ)). BeginWith all (take p.count p.lines))
          (output_one lines.call lines.spelled p.lines p.status p.whole) (begin-by p.count p.lines)) p.wrote
      by_lines (inr (inl p)) = begun-so out out_now outcome (take p.such.count p.such.lines)
          (begin-then outcome.out p.such.lines (take p.such.count p.such.lines)
          (taken_begins_all lines.call lines.spelled p p.such.lines p.such.stand)
          (begin-by p.such.count p.such.lines)) p.such.wrote
      by_lines (inr (inr p)) = whole_begins lines.call lines.spelled (on-map p (record {
        lines = p.such.lines;
        stand = p.such.stand.whole;
        wrote = p.such.wrote;
      }))

-- so do the lines of a call of which a read failed
module _ (words : List (List ℕ)) (disk disk_now : Disk) (input input_now : Inflow) (out out_now : Outflow)
    (script : List ℕ) (outcome : Outcome) (known : FilesAreKnown words disk.holds)
    (comes_in : input.left ≡ Some script)
    (is : IsOutcome replies_by words disk.holds (Some script) outcome) where
  failed_begins : HasFailed replies_by words disk disk_now input input_now out out_now
      → Begun out out_now outcome
  failed_begins failed = by_read failed.such
    where
      by_read : Fails replies_by disk.holds input input_now out out_now disk disk_now failed.call
          → Begun out out_now outcome
      by_read (inl f) = begun-so out out_now outcome [] (outcome.out, refl) f.1
      by_read (inr (rose, inl p)) = begun-so out out_now outcome p.such.lines
          (taken_begins_all words disk.holds input input_now out out_now script outcome known comes_in is
          failed.call failed.spelled p p.such.lines
          (pending_taken (answers_on (manner_of replies_by failed.call.settings) p.read) input.left
          input_now.left p.such.lines p.such.stand)) p.such.wrote
      by_read (inr (rose, inr p)) = whole_begins words disk.holds input input_now out out_now
          script outcome known
          comes_in is failed.call failed.spelled p

  first_lines : HasFailed replies_by words disk disk_now input input_now out out_now
      ⊎ HasLines replies_by words disk.holds input input_now out out_now → Begun out out_now outcome
  first_lines (inl failed) = failed_begins failed
  first_lines (inr lines) =
      lines_begin words disk.holds input input_now out out_now script outcome known comes_in is lines

pub written_begins : WrittenBeginsTheOutput
written_begins words disk disk_now input input_now out out_now script outcome known comes_in is = (
  part_begins words disk.holds input input_now out out_now script outcome known comes_in is,
  λ stopped. so_begun out out_now outcome
      (first_lines words disk disk_now input input_now out out_now script outcome known comes_in is stopped),
)
