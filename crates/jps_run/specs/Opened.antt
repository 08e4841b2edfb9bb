-- What a call is opened as: the work that is left to be done once its files are read. No public clause cites
-- this module.
use Rattle.std.specs.Prelude.{◌≡◌, ℕ, ◌≤◌, ◌⊎◌, true, false, List, [], Result, Ok, Err, Some}
use Rattle.io_edge.specs.Known.{Disk, Held}
use Rattle.map_text.specs.Map.{Map}
use Rattle.word_list.specs.Request.{Call}
use Rattle.word_list.specs.declared.request.Settings.{Settings}
use Rattle.word_list.specs.declared.rows.Command.TheVariants.{Live, Serve}
use Rattle.call_files.specs.Files.{AreAccepted}
use Rattle.jps_run.specs.Live.{On}
use Rattle.jps_run.specs.Calls.{files_of, output_of, reads_input}
use Rattle.jps_run.specs.Counting.{RoseFor, searches}
use Rattle.call_files.specs.Reading.{open_stops}
use Rattle.jps_run.specs.ServeLoop.{IsFresh}
use Rattle.line_server.specs.declared.server.LineServer.{LineServer}
use Rattle.line_work.specs.Stops.{EndsOrStops}
use Rattle.jps_run.specs.declared.replies.answers.Answers.{Answers}
use Rattle.line_work.specs.declared.stop.Stop.{Stop}
use Rattle.jps_run.specs.declared.commands.Opened.{Opened}
use Rattle.jps_run.specs.declared.commands.Opened.TheVariants as opened
use Rattle.jps_run.specs.Answering.{AreAnswersOn}
use Rattle.jps_run.specs.Who.{replies_by}
use Rattle.jps_run.specs.Session.{IsSessionOn}
use Rattle.jps_run.specs.Works.{CanPerform, HasRisen, IsWhole}
use Rattle.jps_run.specs.declared.work.Work.{Work}

-- nothing is searched for the call, or the counter rose as the searches on the texts of its files make it
abbrev pub IsCounted : Call → List (List ℕ) → ℕ → ℕ → Type 0
IsCounted call texts old new = (searches call.request.command ≡ false) ⊎ RoseFor call texts old new

-- the work is that of a call on the texts of its files: what it prints is the call's output
pub record IsWorkOf (call : Call) (texts : List (List ℕ)) (work : Work) : Type 0 where
  pub can : CanPerform work
  pub right : (lines : List (List ℕ)) (status : ℕ) → IsWhole work lines status
      → (status ≤ 1) × (output_of replies_by call texts ≡ Some (record { lines = lines; status = status }))
  pub counted : (old new : ℕ) → HasRisen work old new → IsCounted call texts old new

-- so it is, and the files hold these texts
pub record IsWorkOn (call : Call) (holds : List ℕ → Held) (work : Work) : Type 0 where
  pub texts : List (List ℕ)
  pub accepted : AreAccepted holds [] (files_of call) texts
  pub is : IsWorkOf call texts work

-- a session that answers what comes in, as the call asks
pub record IsListener (call : Call) (holds : List ℕ → Held) (job : Answers) : Type 0 where
  pub reads : reads_input call.request.command ≡ true
  pub on : On Live call holds (λ m. AreAnswersOn call.settings m job)

-- a server on a map, which has answered nothing yet
pub record IsServerOn (set : Settings) (m : Map) (server : LineServer) : Type 0 where
  pub session : IsSessionOn set m server.session
  pub show : server.show ≡ set.show
  pub begun : IsFresh server

-- one that answers the lines that come in, as the call asks
pub record IsServer (call : Call) (holds : List ℕ → Held) (server : LineServer) : Type 0 where
  pub reads : reads_input call.request.command ≡ true
  pub on : On Serve call holds (λ m. IsServerOn call.settings m server)

-- the call was opened as this
abbrev pub IsOpenedAs : Call → (List ℕ → Held) → Opened → Type 0
IsOpenedAs call holds (opened.Work work) = IsWorkOn call holds work
IsOpenedAs call holds (opened.Listener job) = IsListener call holds job
IsOpenedAs call holds (opened.Server server) = IsServer call holds server

-- work was opened for the call, or that stopped
abbrev pub OpensWork : Call → Disk → Disk → Result Work Stop → Type 0
OpensWork call disk disk_now result =
    EndsOrStops (IsWorkOn call disk.holds) (open_stops disk disk_now (files_of call)) result

-- a session that answers what comes in was opened for the call, or that stopped
abbrev pub OpensListener : Call → Disk → Disk → Result Answers Stop → Type 0
OpensListener call disk disk_now result =
    EndsOrStops (IsListener call disk.holds) (open_stops disk disk_now (files_of call)) result

-- a server was
abbrev pub OpensServer : Call → Disk → Disk → Result LineServer Stop → Type 0
OpensServer call disk disk_now result =
    EndsOrStops (IsServer call disk.holds) (open_stops disk disk_now (files_of call)) result

-- the call was opened, or that stopped
abbrev pub Opens : Call → Disk → Disk → Result Opened Stop → Type 0
Opens call disk disk_now result =
    EndsOrStops (IsOpenedAs call disk.holds) (open_stops disk disk_now (files_of call)) result

-- the work that was opened, or why that stopped, as what a call is opened as
abbrev pub opened_as : Result Work Stop → Result Opened Stop
opened_as (Ok work) = Ok (opened.Work work)
opened_as (Err stop) = Err stop
