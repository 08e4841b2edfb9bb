-- The steps that the commands count which come in.
use Rattle.std.proofs.Common.{◌≡◌, sym, ap, ◌∙◌, subst, List, [], ◌++◌, ℕ, ◌+◌, ◌≤◌, length, length-append}
use Rattle.std.proofs.Common.{take, min, arith}
use Rattle.std.specs.Option.{option_map}
use Rattle.call_files.specs.FaultLines.{script_line}
use Rattle.jps_run.specs.Rising.{RoseForCommands}
use Rattle.std.specs.Prelude.{◌≢◌, ◌^◌, Option, Result, Ok, Err, OnOk}
use Rattle.std.specs.Io.KnownBytes.{Consumes, IsAtEnd}
use Rattle.std.proofs.lemmas.List.{append-nil}
use Rattle.script_text.specs.declared.command.ScriptCommand.{ScriptCommand}
use Rattle.script_text.specs.declared.fault.ScriptFault.{ScriptFault}
use Rattle.script_text.specs.declared.fault.ScriptFault.TheVariants.{NoMemory}
use Rattle.script_text.specs.declared.feeder.LineFeeder.{LineFeeder}
use Rattle.script_text.specs.Fed.{HasTaken, HasFed, HasEnded}
use Rattle.script_text.specs.Feeding.{commands_so_far, commands_of, fault_of, Appended}
use Rattle.script_text.specs.Feeding as feeding
use Rattle.script_text.proofs.Feeding.{begun-known}
use Rattle.jps_run.specs.Answering.{HaveCounted}
use Rattle.jps_run.specs.Heard.{RoseHeard}
use Rattle.jps_run.specs.HeardCounts.{IsRising, RiseEnd, RisePiece}
use Rattle.line_work.specs.Working.{CountsMore}
use Rattle.jps_run.specs.declared.replies.answers.Answers.{Answers}
use Rattle.line_work.specs.declared.stop.Stop.{Stop}
use Rattle.jps_run.proofs.Rising.{taken-none}
use Rattle.jps_run.proofs.Listening.{consumes-both, consumes-none, few-heard, input-all}

-- the commands that were appended to none are those that became known
all-known : (earlier later before got slice : List ScriptCommand) → before ≡ [] → slice ≡ got
    → Appended earlier later before got → earlier ++ slice ≡ later
all-known earlier later before got slice empty same a =
    ap (λ (l : List ScriptCommand). earlier ++ l)
    (same ∙ a.appended ∙ ap (λ (b : List ScriptCommand). b ++ a.more) empty) ∙ sym a.known

-- an answer without fault is not for want of memory
not-starved : (answer : Result (Unit {0}) ScriptFault) → answer ≡ Ok tt → answer ≢ Err NoMemory
not-starved answer ok = λ no. (let e : Ok tt ≡ Err NoMemory = sym ok ∙ no in cc)

module _ (old new : Answers) (feeder feeder_now : LineFeeder) (before got slice : List ScriptCommand)
    (answer : Result (Unit {0}) ScriptFault) (at now : ℕ) (empty : before ≡ []) (same : slice ≡ got) where
  -- the commands of a piece are answered
  pub rise-piece : (piece : List ℕ) (result : Result (Unit {0}) Stop)
      → (answer ≢ Err NoMemory → (text : List ℕ) → HasTaken feeder text
      → HasFed text (text ++ piece) feeder_now before got answer)
      → OnOk result (answer ≡ Ok tt) → OnOk result (CountsMore HaveCounted old new slice at now)
      → OnOk result (RisePiece old new feeder feeder_now piece at now)
  rise-piece piece (Err error) fed ok rise = tt
  rise-piece piece (Ok done) fed ok rise = λ first text start h t.
      let f = fed (not-starved answer ok) text h in (
        f.taken,
        subst (λ (all : List ScriptCommand). HaveCounted first new all start now)
            (all-known (commands_so_far text) (commands_so_far (text ++ piece)) before got slice empty same
            f.commands) (rise first (commands_so_far text) start t),
      )

  -- and those of the end of a script
  pub rise-end : (answer ≢ Err NoMemory → (text : List ℕ) → HasTaken feeder text
      → HasEnded text feeder_now before got answer) → answer ≡ Ok tt
      → CountsMore HaveCounted old new slice at now
      → RiseEnd old new feeder at now
  rise-end ended ok rise = λ first text start h t.
      let f = ended (not-starved answer ok) text h in (
        subst (λ (a : Result (Unit {0}) ScriptFault). feeding.Answers a (fault_of text)) ok f.answer,
        subst (λ (all : List ScriptCommand). HaveCounted first new all start now)
            (all-known (commands_so_far text) (commands_of text) before got slice empty same f.commands)
            (rise first (commands_so_far text) start t),
      )

-- nothing was read yet
pub rising-begun : (first : Answers) (feeder : LineFeeder) (input : Option (List ℕ)) (start : ℕ)
    → HasTaken feeder [] → feeder.taken ≡ 0 → IsRising first first feeder input input start start
rising-begun first feeder input start begun none = record {
  text = [];
  consumed = consumes-none input;
  counted = sym none;
  fed = begun;
  taken = subst (λ (commands : List ScriptCommand). HaveCounted first first commands start start)
      (sym begun-known.1)
      (taken-none first start);
}

module _ {first job : Answers} {feeder : LineFeeder} {input mid : Option (List ℕ)} {start at : ℕ}
    (new : Answers) (left : Option (List ℕ)) (now : ℕ)
    (r : IsRising first job feeder input mid start at) where
  -- a piece was heard whole
  pub rising-more : (feeder_now : LineFeeder) (count room : ℕ) (bytes piece : List ℕ)
      → Consumes mid left (take count bytes) → piece ≡ take (min count room) bytes → count ≤ room
      → feeder_now.taken ≡ feeder.taken + length piece → RisePiece job new feeder feeder_now piece at now
      → IsRising first new feeder_now input left start now
  rising-more feeder_now count room bytes piece read is fits counted rise =
      grind (arith, consumes-both, length-append)

  -- nothing more came in
  pub rising-ended : (bytes : List ℕ) → Consumes mid left (take 0 bytes) → IsAtEnd left
      → feeder.taken ≤ 2 ^ 26
      → (result : Result ℕ Stop) → OnOk result (RiseEnd job new feeder at now)
      → OnOk result (RoseHeard first.session input start now)
  rising-ended bytes read ended few (Err error) rise = tt
  rising-ended bytes read ended few (Ok status) rise =
      let e = rise first r.text start r.fed r.taken in
      let so = few-heard r.text (let same : length r.text ≡ feeder.taken = r.counted in
      let h : length r.text ≤ 2 ^ 26 = omega arith in h) in
      record {
        script = r.text;
        comes = input-all input left r.text (subst (λ (t : List ℕ). Consumes input left t) (append-nil r.text)
            (consumes-both input mid left r.text [] r.consumed read)) ended;
        clean = so.1 ∙ ap (option_map script_line) e.0;
        rose = subst (λ (commands : List ScriptCommand). RoseForCommands first.session commands start now)
            (sym so.0) e.1.rose;
      }
