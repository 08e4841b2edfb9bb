-- How a call of `run` ends.
use Rattle.std.specs.Prelude.{◌≡◌, true, ℕ, List, [], ◌≤◌, ◌⊎◌, codes, nat_eq, if◌then◌else◌, Option, Result}
use Rattle.std.specs.Prelude.{Ok, Err}
use Rattle.std.specs.List.{concat}
use Rattle.io_edge.specs.Causes.{Rose}
use Rattle.word_list.specs.Calls.{is_call}
use Rattle.word_list.specs.Request.{Call}
use Rattle.word_list.specs.Rule.{StopsAt}
use Rattle.word_list.specs.declared.rows.Command.TheVariants.{Live, Serve}
use Rattle.call_files.specs.FaultLines.{word_line}
use Rattle.call_files.specs.Files.{FileRose}
use Rattle.jps_run.specs.Calls.{MayHear, files_of, reads_input}
use Rattle.jps_run.specs.Outcome.{Spell, Outcome, IsOutcome, IsOutput}
use Rattle.jps_run.specs.Replies.{AreRight, By, Replies}
use Rattle.jps_run.specs.Heard.{AnswerPending, AnswerTaken, Answering, WroteAll, WroteFirst, WroteLines}
use Rattle.jps_run.specs.Live.{On, lines_on}
use Rattle.jps_run.specs.Serving.{ServeEndless, ServeTaken, ServeWhole, Serving, serving_for}
use Rattle.jps_run.specs.Standing.{StandFor}
use Rattle.io_edge.specs.Known.{Disk, Held, Inflow, Outflow}
use Rattle.line_work.specs.Sending.{Wrote, WroteSome, IsPart, AreLines}
use Rattle.line_work.specs.declared.stop.Stop.{Stop}
use Rattle.line_work.specs.declared.stop.Stop.TheVariants as stop

-- what `err` gets in place of an outcome's line: where a read failed, where a write failed, for want of
-- memory
abbrev pub read_line : List ℕ
read_line = codes "jps: read\n"

abbrev pub write_line : List ℕ
write_line = codes "jps: write\n"

abbrev pub memory_line : List ℕ
memory_line = codes "jps: memory\n"

-- the line of a status that is no outcome's
abbrev pub ending_line : ℕ → List ℕ
ending_line status =
    if nat_eq status 4 then read_line else if nat_eq status 5 then write_line else memory_line

-- the stream got the line, or where its own count rose a first part of it
abbrev pub Gets : Outflow → Outflow → List ℕ → Type 0
Gets before now line = Wrote before now line ⊎ WroteSome before now line

-- the outcome came about: its status is answered, `out` got what stands for its lines, and `err` its line
pub record Comes (replies : By → Replies) (words : List (List ℕ)) (holds : List ℕ → Held)
    (input : Option (List ℕ)) (out out_now err err_now : Outflow) (status : ℕ) : Type 0 where
  pub outcome : Outcome
  pub is : IsOutcome replies words holds input outcome
  pub same_status : outcome.status ≡ status
  pub texts : List (List ℕ)
  pub stand : StandFor outcome.wants outcome.out texts
  pub wrote : Wrote out out_now (concat texts)
  pub printed : Gets err err_now outcome.line

-- the words spell a call of which this holds
pub record OfCall (words : List (List ℕ)) (Such : Call → Type 0) : Type 0 where
  pub call : Call
  pub spelled : Spell words call
  pub such : Such call

-- the count of a file rose that the words name and that there was reason to read
abbrev pub NamedRose : List (List ℕ) → Disk → Disk → Type 0
NamedRose words disk disk_now = OfCall words (λ call. FileRose (files_of call) disk disk_now)

-- the words ask for what is read from the input, and each file that they name is accepted
abbrev pub CanHear : List (List ℕ) → (List ℕ → Held) → Type 0
CanHear words holds = OfCall words (λ call. MayHear call holds)

-- a call reads the input, and its count rose
abbrev pub FailsToHear : Inflow → Inflow → Call → Type 0
FailsToHear input input_now call =
    (reads_input call.request.command ≡ true) × Rose input.faults input_now.faults

-- by `serve` nothing was read: from the first read on want of memory is an answer
abbrev pub IsUnread : Inflow → Inflow → Call → Type 0
IsUnread input input_now call = call.request.command ≡ Serve → input_now.left ≡ input.left

-- so it is with the call that the words ask for
abbrev pub InputRose : List (List ℕ) → Inflow → Inflow → Type 0
InputRose words input input_now = OfCall words (FailsToHear input input_now)

-- what is known where a call stops, by what its queries are replied
module _ (replies : By → Replies) (holds : List ℕ → Held) (input input_now : Inflow)
    (out out_now : Outflow) where
  -- this holds of what answers commands that come in, by `live`; or lines, by `serve`
  abbrev pub OnInput : Call → (Answering → Type 0) → (Serving → Type 0) → Type 0
  OnInput call Heard Served = On Live call holds (λ m. Heard (lines_on replies call m))
      ⊎ On Serve call holds (λ m. Served (serving_for replies call m))

  -- a read failed: of a file, and nothing was written; or of the input, and exactly the lines of the whole
  -- commands, none of which is refused, or by `serve` what stands for the answers to the whole lines, among
  -- the bytes that were taken were written
  abbrev pub Fails : Disk → Disk → Call → Type 0
  Fails disk disk_now call = (FileRose (files_of call) disk disk_now × Wrote out out_now [])
      ⊎ (FailsToHear input input_now call
      × OnInput call (λ lines. WroteAll (AnswerPending lines input.left input_now.left) out out_now)
      (λ answers. WroteAll (ServeWhole answers input.left input_now.left) out out_now))

  -- a first part of the call's output was written; where the input is read, of the lines of the whole
  -- commands, or by `serve` of what stands for the answers to the lines, among the bytes that were taken
  abbrev pub WrotePart : Call → Type 0
  WrotePart call = IsPart (IsOutput replies call holds) out out_now
      ⊎ OnInput call (λ lines. WroteFirst (AnswerTaken lines input.left input_now.left) out out_now)
      (λ answers. WroteFirst (ServeTaken answers input.left input_now.left) out out_now)

  -- the first lines of the call's output were, each whole, and not all of them; where the input is read, the
  -- first lines of the whole commands among the bytes that were taken. By `serve` what stands for the answers
  -- to the whole lines among more bytes than 64 bits count was
  abbrev pub WroteFirstLines : Call → Type 0
  WroteFirstLines call = AreLines (IsOutput replies call holds) out out_now
      ⊎ OnInput call (λ lines. WroteLines (AnswerTaken lines input.left input_now.left) out out_now)
      (λ answers. WroteAll (ServeEndless answers input.left input_now.left) out out_now)

-- so it is with the call that the words ask for; for want of memory nothing may have been written, by `serve`
-- before the first read alone
abbrev pub HasFailed : (By → Replies) → List (List ℕ) → Disk → Disk → Inflow → Inflow → Outflow → Outflow
    → Type 0
HasFailed replies words disk disk_now input input_now out out_now =
    OfCall words (Fails replies disk.holds input input_now out out_now disk disk_now)

abbrev pub HasPart : (By → Replies) → List (List ℕ) → (List ℕ → Held) → Inflow → Inflow → Outflow
    → Outflow → Type 0
HasPart replies words holds input input_now out out_now =
    OfCall words (WrotePart replies holds input input_now out out_now)

abbrev pub HasLines : (By → Replies) → List (List ℕ) → (List ℕ → Held) → Inflow → Inflow → Outflow → Outflow
    → Type 0
HasLines replies words holds input input_now out out_now =
    (Wrote out out_now [] × ((call : Call) → Spell words call → IsUnread input input_now call))
    ⊎ OfCall words (WroteFirstLines replies holds input input_now out out_now)

-- by replies of which each is right the outcome came about, or what is known where the call stopped does
pub record EndsRight (words : List (List ℕ)) (disk disk_now : Disk) (input input_now : Inflow)
    (out out_now err err_now : Outflow) (status : ℕ) : Type 0 where
  pub replies : By → Replies
  pub right : AreRight replies
  pub outcome : status ≤ 3 → Comes replies words disk.holds input.left out out_now err err_now status
  pub read : status ≡ 4 → HasFailed replies words disk disk_now input input_now out out_now
  pub part : status ≡ 5 → HasPart replies words disk.holds input input_now out out_now
  pub memory : status ≡ 6 → HasLines replies words disk.holds input input_now out out_now

-- how the work on a call ended, as a status, and as what `err` gets
abbrev pub status_of : Result ℕ Stop → ℕ
status_of (Ok status) = status
status_of (Err (stop.Text line)) = 3
status_of (Err stop.Read) = 4
status_of (Err stop.Write) = 5
status_of (Err stop.Memory) = 6

abbrev pub line_of : Result ℕ Stop → List ℕ
line_of (Ok status) = []
line_of (Err (stop.Text line)) = line.items
line_of (Err stop.Read) = read_line
line_of (Err stop.Write) = write_line
line_of (Err stop.Memory) = memory_line

-- the stream got the line of the word with which no call begins, behind these words or among them
pub record Names (words : List (List ℕ)) (before now : Outflow) : Type 0 where
  pub number : ℕ
  pub stops : StopsAt is_call words number
  pub printed : Gets before now (word_line number)
