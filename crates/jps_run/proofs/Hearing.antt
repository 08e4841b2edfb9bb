-- Scripts that come in: pieces, their answers, and how they end.
use Rattle.std.proofs.Common.{◌≡◌, ◌≢◌, sym, ap, ◌∙◌, subst, List, [], ◌++◌, append_assoc, ℕ, length, arith}
use Rattle.std.specs.Prelude.{Option, Some, None, Result, Ok, Err, IsErrAnd}
use Rattle.std.specs.Option.{option_map}
use Rattle.std.proofs.lemmas.List.{append-nil}
use Rattle.script_text.specs.declared.command.ScriptCommand.{ScriptCommand}
use Rattle.script_text.specs.declared.fault.ScriptFault.{ScriptFault}
use Rattle.script_text.specs.declared.fault.ScriptFault.TheVariants.{NoMemory}
use Rattle.script_text.specs.declared.feeder.LineFeeder.{LineFeeder}
use Rattle.script_text.specs.Fed.{HasTaken, HasFed, HasEnded}
use Rattle.script_text.specs.Feeding.{commands_so_far, commands_of, fault_so_far, fault_of, Appended}
use Rattle.script_text.specs.Feeding as feeding
use Rattle.script_text.proofs.Feeding.{commands-grow, commands-end}
use Rattle.jps_run.specs.Answering.{IsSolved, lines_by}
use Rattle.call_files.specs.FaultLines.{script_line}
use Rattle.jps_run.specs.Hearing.{HasWritten, known_stops, AnswersKnown, AreKnownCommands, Refuses, HasHeard}
use Rattle.jps_run.specs.Hearing.{HearsPiece}
use Rattle.io_edge.specs.Known.{Outflow}
use Rattle.jps_run.specs.Heard.{WroteLines}
use Rattle.line_work.specs.Sending.{work_stops}
use Rattle.line_work.specs.Stops.{StopsSo, EndsOrStops}
use Rattle.jps_run.specs.declared.replies.answers.Answers.{Answers}
use Rattle.line_work.specs.declared.stop.Stop.{Stop}
use Rattle.line_work.proofs.Pieces.{all-sent, front-sent}
use Rattle.jps_run.proofs.Solving.{answers-complete}
use Rattle.line_work.proofs.Stopping.{passed, ends-on, follow-same}

-- the answers to commands that became known stop
pub known-stopped : (first new : Answers) (answer : Result (Unit {0}) ScriptFault)
    (earlier more all : List ScriptCommand)
    (f : Option ScriptFault) (before now : Outflow) → AreKnownCommands answer earlier more all f
    → {X : Type 0} (Done : X → Type 0) (result : Result X Stop) (stop : Stop)
    → IsErrAnd result (λ s. s ≡ stop)
    → ((others : List ScriptCommand)
    → StopsSo (work_stops (IsSolved first (earlier ++ (more ++ others))) before now) stop)
    → EndsOrStops Done (known_stops first new all f before now) result
known-stopped first new answer earlier more all f before now k Done result stop m stops =
    passed Done (work_stops (IsSolved first all) before now) (known_stops first new all f before now)
    result stop m
    (subst (λ (a : List ScriptCommand). StopsSo (work_stops (IsSolved first a) before now) stop) (sym k.are)
    (stops k.others))
    (record {
      refused = λ line no. absurd no;
      read = λ no. absurd no;
      write = λ w. w;
      memory = λ l. record { lines = l.lines; stand = l.whole.all; count = l.count; wrote = l.wrote };
    })

-- the answers end, and a fault is known behind them or none
module _ (first new : Answers) (answer : Result (Unit {0}) ScriptFault)
    (earlier more all : List ScriptCommand)
    (f : Option ScriptFault) (before now : Outflow) (k : AreKnownCommands answer earlier more all f)
    (w : HasWritten first new (earlier ++ more) before now) where
  exactly : answer ≢ Err NoMemory → HasWritten first new all before now
  exactly other =
      subst (λ (a : List ScriptCommand). HasWritten first new a before now)
      (sym (k.are ∙ ap (λ (o : List ScriptCommand). earlier ++ (more ++ o)) (k.exact other).0
      ∙ ap (λ (l : List ScriptCommand). earlier ++ l) (append-nil more))) w

  first-lines : WroteLines (λ lines. lines ≡ lines_by first all) before now
  first-lines =
      let c = answers-complete first new (earlier ++ more) k.others w.lines w.worked in
      let sent = all-sent before now w.lines w.wrote w.later in
      record {
        lines = w.lines ++ c.more;
        stand = c.whole.all ∙ ap (lines_by first) (append_assoc earlier more k.others ∙ sym k.are);
        count = length sent.written;
        wrote = front-sent before now [] w.lines c.more sent;
      }

  pub known-ended : (result : Result (Unit {0}) Stop) → Refuses answer result
      → EndsOrStops (λ done. (answer ≡ Ok tt) × (f ≡ None) × HasWritten first new all before now)
      (known_stops first new all f before now) result
  known-ended result r = ends-on (λ done. answer ≡ Ok tt) _ _ _ result
      (λ done ok.
      let other : answer ≢ Err NoMemory = λ no. (let e : Ok tt ≡ Err NoMemory = sym ok ∙ no in cc) in (
        ok,
        subst (λ (a : Result (Unit {0}) ScriptFault). feeding.Answers a f) ok (k.exact other).1,
        exactly other,
      ))
      (record {
        refused = λ line r.
            let other : answer ≢ Err NoMemory
            = λ no. (let e : Err r.0 ≡ Err NoMemory = sym r.1 ∙ no in r.2 cc) in
            let named = subst (λ (a : Result (Unit {0}) ScriptFault). feeding.Answers a f) r.1
            (k.exact other).1 in (
              ap (option_map script_line) named.0 ∙ ap (λ (l : List ℕ). Some l) (sym r.3),
              exactly other,
            );
        read = λ no. absurd no;
        write = λ no. absurd no;
        memory = λ no. first-lines;
      }) r

-- what is known by an answer of the feeder
known-by : (answer : Result (Unit {0}) ScriptFault) (earlier got all : List ScriptCommand)
    (f : Option ScriptFault)
    → (answer ≢ Err NoMemory → Appended earlier all [] got × feeding.Answers answer f)
    → (answer ≡ Err NoMemory → (got ≡ []) × ((k : List ScriptCommand) × (all ≡ earlier ++ k)))
    → AreKnownCommands answer earlier got all f
known-by answer earlier got all f fed starved = grind (arith, append-nil)

-- a piece was fed, or memory for it was refused
pub piece-known : (feeder now : LineFeeder) (text piece : List ℕ) (got : List ScriptCommand)
    (answer : Result (Unit {0}) ScriptFault) → HasTaken feeder text
    → (answer ≢ Err NoMemory → (text : List ℕ) → HasTaken feeder text
    → HasFed text (text ++ piece) now [] got answer)
    → (answer ≡ Err NoMemory → (now ≡ feeder) × (got ≡ []))
    → AreKnownCommands answer (commands_so_far text) got (commands_so_far (text ++ piece))
    (fault_so_far (text ++ piece))
piece-known feeder now text piece got answer h fed starved =
    known-by answer (commands_so_far text) got _ _
    (λ other. let f = fed other text h in (f.commands, f.answer))
    (λ is. ((starved is).1, commands-grow text piece))

-- the script ended, or memory for its last command was refused
pub end-known : (feeder now : LineFeeder) (text : List ℕ) (got : List ScriptCommand)
    (answer : Result (Unit {0}) ScriptFault) → HasTaken feeder text
    → (answer ≢ Err NoMemory → (text : List ℕ) → HasTaken feeder text → HasEnded text now [] got answer)
    → (answer ≡ Err NoMemory → (now ≡ feeder) × (got ≡ []))
    → AreKnownCommands answer (commands_so_far text) got (commands_of text) (fault_of text)
end-known feeder now text got answer h ended starved = grind (arith, known-by, commands-end)

-- so a piece is heard
pub piece-heard : (old new : Answers) (feeder feeder_now : LineFeeder) (piece : List ℕ)
    (before_got got slice : List ScriptCommand) (answer : Result (Unit {0}) ScriptFault) (at now : Outflow)
    (result : Result (Unit {0}) Stop) → before_got ≡ [] → slice ≡ got
    → (answer ≢ Err NoMemory → (text : List ℕ) → HasTaken feeder text
    → HasFed text (text ++ piece) feeder_now before_got got answer)
    → (answer ≡ Err NoMemory → (feeder_now ≡ feeder) × (got ≡ before_got))
    → AnswersKnown old new answer slice at now result
    → HearsPiece old new feeder feeder_now piece at now result
piece-heard old new feeder feeder_now piece before_got got slice answer at now result empty same fed
    starved known =
    λ first text before h.
    let fed_from : answer ≢ Err NoMemory → (text : List ℕ) → HasTaken feeder text
    → HasFed text (text ++ piece) feeder_now [] got answer = λ other text h.
    subst (λ (b : List ScriptCommand). HasFed text (text ++ piece) feeder_now b got answer) empty
    (fed other text h) in
    let k = piece-known feeder feeder_now text piece got answer h.fed fed_from
    (λ is. ((starved is).0, (starved is).1 ∙ empty)) in
    let all = commands_so_far (text ++ piece) in
    let f = fault_so_far (text ++ piece) in
    ends-on (λ done. (answer ≡ Ok tt) × (f ≡ None) × HasWritten first new all before now) _
    (known_stops first new all f before now) (known_stops first new all f before now) result
    (λ done d. record {
      fed = (fed_from (λ no. (let e : Ok tt ≡ Err NoMemory = sym d.0 ∙ no in cc)) text h.fed).taken;
      clean = d.1;
      written = d.2;
    })
    (follow-same (known_stops first new all f before now))
    (known first (commands_so_far text) all f before h.written
    (subst (λ (g : List ScriptCommand). AreKnownCommands answer (commands_so_far text) g all f) (sym same) k))

-- and the end of a script
module _ (old new : Answers) (feeder feeder_now : LineFeeder) (before_got got slice : List ScriptCommand)
    (answer : Result (Unit {0}) ScriptFault) (at now : Outflow) (result : Result (Unit {0}) Stop)
    (empty : before_got ≡ []) (same : slice ≡ got)
    (ended : answer ≢ Err NoMemory → (text : List ℕ) → HasTaken feeder text
    → HasEnded text feeder_now before_got got answer)
    (starved : answer ≡ Err NoMemory → (feeder_now ≡ feeder) × (got ≡ before_got))
    (known : AnswersKnown old new answer slice at now result)
    (first : Answers) (text : List ℕ) (before : Outflow) (h : HasHeard first old feeder text before at) where
  pub end-heard : EndsOrStops (λ done. (answer ≡ Ok tt) × (fault_of text ≡ None)
      × HasWritten first new (commands_of text) before now)
      (known_stops first new (commands_of text) (fault_of text) before now) result
  end-heard =
      let k = end-known feeder feeder_now text got answer h.fed
      (λ other text h. subst (λ (b : List ScriptCommand). HasEnded text feeder_now b got answer) empty
      (ended other text h)) (λ is. ((starved is).0, (starved is).1 ∙ empty)) in
      known first (commands_so_far text) (commands_of text) (fault_of text) before h.written
      (subst (λ (g : List ScriptCommand). AreKnownCommands answer (commands_so_far text) g (commands_of text)
      (fault_of text))
      (sym same) k)
