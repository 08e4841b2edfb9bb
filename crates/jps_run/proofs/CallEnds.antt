-- The work on a call, from its files to its output.
use Rattle.std.proofs.Common.{◌≡◌, ◌∙◌, ap, refl, subst, ◌⊎◌, inl, inr, List, [], ◌∷◌, ℕ, arith}
use Rattle.std.specs.Prelude.{None, Some, Option, Result, IsErrAnd}
use Rattle.io_edge.specs.Known.{Disk, Held, Inflow, Outflow}
use Rattle.edit_replay.specs.Session.{SessionData}
use Rattle.word_list.specs.Request.{Call}
use Rattle.word_list.specs.declared.request.Show.{Show}
use Rattle.word_list.specs.declared.rows.Command.TheVariants.{Live, Serve}
use Rattle.script_text.specs.declared.command.ScriptCommand.{ScriptCommand}
use Rattle.call_files.specs.Layered.{layers_on}
use Rattle.jps_run.specs.Answering.{lines_by}
use Rattle.jps_run.specs.Answers.{answer_lines}
use Rattle.jps_run.specs.Manner.{manner_of, session_by}
use Rattle.jps_run.specs.Session.{session_replies, session_on}
use Rattle.jps_run.specs.Who.{replies_by}
use Rattle.jps_run.specs.Counting.{RoseForCall, none, read, searches, some}
use Rattle.jps_run.specs.Ending.{IsUnread, WroteFirstLines}
use Rattle.jps_run.specs.Heard.{Answering, WroteAll, WroteFirst, WroteLines, AnswerHeard, AnswerPending}
use Rattle.jps_run.specs.Heard.{AnswerTaken}
use Rattle.jps_run.specs.Live.{On, answers_on}
use Rattle.jps_run.specs.Hearing.{Hears}
use Rattle.call_files.specs.Reading.{open_stops}
use Rattle.jps_run.specs.Works.{HasRisen, IsWhole}
use Rattle.jps_run.specs.Opened.{IsCounted, IsListener, IsServer, IsWorkOn}
use Rattle.jps_run.specs.ServeLoop.{AllIsServed, Serves, serve_stops, serving_by}
use Rattle.jps_run.specs.Serving.{ServeEndless, ServeInput, ServeTaken, ServeWhole, Serving, serving_for}
use Rattle.jps_run.specs.Calls.{MayHear, files_of}
use Rattle.jps_run.specs.Outcome.{IsOutput}
use Rattle.line_feed.specs.declared.feed.FedLine.{FedLine}
use Rattle.line_server.specs.Answers.{all_asked, answers_to}
use Rattle.line_server.specs.declared.server.LineServer.{LineServer}
use Rattle.line_work.specs.Sending.{IsAll, SendsWhole, Wrote, work_stops}
use Rattle.jps_run.specs.CallEnds.{EndsCall, call_stops}
use Rattle.line_work.specs.Stops.{StopsSo}
use Rattle.jps_run.specs.declared.replies.answers.Answers.{Answers}
use Rattle.line_work.specs.declared.stop.Stop.{Stop}
use Rattle.jps_run.specs.declared.work.Work.{Work}
use Rattle.line_work.proofs.Pieces.{nothing}
use Rattle.jps_run.proofs.Opening.{on-map}
use Rattle.line_work.proofs.Stopping.{passed, ends-on}

-- what holds of the session holds of the call
module _ (call : Call) (holds : List ℕ → Held) (job : Answers) (l : IsListener call holds job) where
  -- its lines are those of the call
  lines_are : lines_by job ≡ answers_on (manner_of replies_by call.settings) l.on.read
  lines_are =
      ap (λ (d : SessionData). λ (commands : List ScriptCommand). answer_lines
      (session_replies d) job.show d.layers commands)
      l.on.such.session
      ∙ ap (λ (show : Show). λ (commands : List ScriptCommand). answer_lines (replies_by
      (session_by call.settings)) show
      (layers_on call.settings l.on.read) commands) l.on.such.show

  pub on-live : (Such : Answering → Type 0) → Such (lines_by job)
      → On Live call holds (λ m. Such (answers_on (manner_of replies_by call.settings) m))
  on-live Such k = on-map l.on (subst (λ (a : Answering). Such a) lines_are k)

  -- and its session is that on the map
  pub on-session : (Such : SessionData → Type 0) → Such job.session
      → On Live call holds (λ m. Such (session_on call.settings m))
  on-session Such k = on-map l.on (subst (λ (d : SessionData). Such d) l.on.such.session k)

-- what holds of a server holds of the call
module _ (call : Call) (holds : List ℕ → Held) (server : LineServer) (l : IsServer call holds server) where
  -- its answers are those of the call
  serving_is : serving_by server ≡ serving_for replies_by call l.on.read
  serving_is =
      ap (λ (d : SessionData). λ (lines : List FedLine). answers_to (session_replies d)
      server.show d.layers []
      (all_asked lines))
      l.on.such.session
      ∙ ap (λ (show : Show). λ (lines : List FedLine). answers_to (replies_by (session_by call.settings)) show
      (layers_on call.settings l.on.read) [] (all_asked lines)) l.on.such.show

  pub on-serve : (Such : Serving → Type 0) → Such (serving_by server)
      → On Serve call holds (λ m. Such (serving_for replies_by call m))
  on-serve Such k = on-map l.on (subst (λ (a : Serving). Such a) serving_is k)

-- a session that answers what comes in was opened behind accepted files
pub may-hear : (call : Call) (holds : List ℕ → Held) (job : Answers) → IsListener call holds job
    → MayHear call holds
may-hear call holds job l =
    record { reads = l.reads; texts = l.on.text ∷ l.on.behind; accepted = l.on.accepted }

pub may-serve : (call : Call) (holds : List ℕ → Held) (server : LineServer) → IsServer call holds server
    → MayHear call holds
may-serve call holds server l =
    record { reads = l.reads; texts = l.on.text ∷ l.on.behind; accepted = l.on.accepted }

-- of a server no steps are promised
pub unsearched : (call : Call) (holds : List ℕ → Held) (server : LineServer)
    (input : Option (List ℕ)) (old new : ℕ)
    → IsServer call holds server → RoseForCall call holds input old new
unsearched call holds server input old new l = read (none (ap searches l.on.is))

-- the counter rose as the work makes it, and so for the call
pub work-counted : (call : Call) (holds : List ℕ → Held) (work : Work) (input : Option (List ℕ)) (old new : ℕ)
    → IsWorkOn call holds work → HasRisen work old new → RoseForCall call holds input old new
work-counted call holds work input old new w rose = by_search (w.is.counted old new rose)
  where
    by_search : IsCounted call w.texts old new → RoseForCall call holds input old new
    by_search (inl idle) = read (none idle)
    by_search (inr risen) = read (some w.texts w.accepted risen)

module _ (call : Call) (disk disk_now : Disk) (input input_now : Inflow) (out out_now : Outflow)
    (result : Result ℕ Stop) where
  -- the call was not opened
  pub unopened-ends : (stop : Stop) → StopsSo (open_stops disk disk_now (files_of call)) stop
      → IsErrAnd result (λ s. s ≡ stop) → EndsCall call disk disk_now input input out out result
  unopened-ends stop k m =
      passed _ (open_stops disk disk_now (files_of call))
      (call_stops call disk disk_now input input out out) result stop m k (record {
        refused = λ line r. inl (r, nothing out.written);
        read = λ r. inl (r, nothing out.written);
        write = λ k. absurd k;
        memory = λ k. inl (nothing out.written, λ serve. refl);
      })

  -- the work was done, or it stopped
  pub work-ends : (work : Work) → IsWorkOn call disk.holds work
      → SendsWhole (IsWhole work) out out_now result
      → EndsCall call disk disk_now input input_now out out_now result
  work-ends work w s =
      let output : (lines : List (List ℕ)) (status : ℕ) → IsWhole work lines status
      → IsOutput replies_by call disk.holds lines status
      = λ lines status whole.
      record { texts = w.texts; accepted = w.accepted; answered = (w.is.right lines status whole).1 } in
      ends-on (IsAll (IsWhole work) out out_now) _ (work_stops (IsWhole work) out out_now)
      (call_stops call disk disk_now input input_now out out_now) result
      (λ status a. (
        (w.is.right a.lines status a.whole).0,
        inl (record { lines = a.lines; whole = output a.lines status a.whole; wrote = a.wrote }),
      ))
      (record {
        refused = λ line k. absurd k;
        read = λ k. absurd k;
        write = λ k. (
          k.0,
          inl (record {
            lines = k.1.lines;
            status = k.1.status;
            whole = output k.1.lines k.1.status k.1.whole;
            wrote = k.1.wrote;
          }),
        );
        memory = λ k. inr (inl (record {
          lines = k.lines;
          status = k.status;
          whole = output k.lines k.status k.whole;
          count = k.count;
          short = k.short;
          wrote = k.wrote;
        }));
      }) s

  -- what came in was answered, or that stopped
  pub heard-ends : (job : Answers) → IsListener call disk.holds job
      → Hears job input input_now out out_now result
      → EndsCall call disk disk_now input input_now out out_now result
  heard-ends job l h =
      ends-on (λ status. (status ≡ 0)
      × WroteAll (AnswerHeard (lines_by job) input.left None) out out_now) _ _
      (call_stops call disk disk_now input input_now out out_now) result
      (λ status e. (
        (let good : status ≡ 0 = e.0 in omega arith),
        inr (
          e.0,
          inl (on-live call disk.holds job l (λ answers. WroteAll (AnswerHeard answers input.left None) out
              out_now) e.1),
        ),
      ))
      (record {
        refused = λ line w. inr
            (on-live call disk.holds job l
            (λ answers. WroteAll (AnswerHeard answers input.left (Some line)) out
            out_now) w);
        read = λ w. inr (
          (l.reads, w.0),
          inl (on-live call disk.holds job l
              (λ answers. WroteAll (AnswerPending answers input.left input_now.left)
              out out_now) w.1),
        );
        write = λ w. (
          w.0,
          inr (inl (on-live call disk.holds job l
              (λ answers. WroteFirst (AnswerTaken answers input.left input_now.left) out out_now) w.1)),
        );
        memory = λ w. inr
            (inr (inl (on-live call disk.holds job l
            (λ answers. WroteLines (AnswerTaken answers input.left input_now.left) out out_now) w)));
      }) h

  -- the lines that came in were answered, or that stopped
  pub server-ends : (server : LineServer) → IsServer call disk.holds server
      → Serves server input input_now out out_now result
      → EndsCall call disk disk_now input input_now out out_now result
  server-ends server l h =
      let left = input_now.left in
      ends-on (λ status. (status ≡ 0) × AllIsServed server input out out_now) _
      (serve_stops server input input_now out out_now)
      (call_stops call disk disk_now input input_now out out_now) result
      (λ status e. (
        (let good : status ≡ 0 = e.0 in omega arith),
        inr (
          e.0,
          inr (on-serve call disk.holds server l
              (λ answers. WroteAll (ServeInput answers input.left) out out_now)
              e.1),
        ),
      ))
      (record {
        refused = λ line no. absurd no;
        read = λ w. inr (
          (l.reads, w.0),
          inr (on-serve call disk.holds server l (λ answers. WroteAll (ServeWhole answers input.left left) out
              out_now) w.1),
        );
        write = λ w. (
          w.0,
          inr (inr (on-serve call disk.holds server l
              (λ answers. WroteFirst (ServeTaken answers input.left left) out
              out_now) w.1)),
        );
        memory = by_memory;
      }) h
    where
      by_memory : (Wrote out out_now [] × (input_now.left ≡ input.left))
          ⊎ WroteAll (ServeEndless (serving_by server) input.left input_now.left) out out_now
          → (Wrote out out_now [] × IsUnread input input_now call)
          ⊎ WroteFirstLines replies_by disk.holds input input_now out out_now call
      by_memory (inl nothing) = inl (nothing.0, λ serve. nothing.1)
      by_memory (inr w) = inr (inr (inr (on-serve call disk.holds server l
          (λ answers. WroteAll (ServeEndless answers input.left input_now.left) out out_now) w)))
