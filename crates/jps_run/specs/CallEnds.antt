-- How the work on a call ends. No public clause cites this module.
use Rattle.std.specs.Prelude.{◌≡◌, ℕ, ◌≤◌, ◌⊎◌, [], None, Some, Result}
use Rattle.io_edge.specs.Causes.{Rose}
use Rattle.io_edge.specs.Known.{Disk, Inflow, Outflow}
use Rattle.word_list.specs.Request.{Call}
use Rattle.call_files.specs.Files.{HasRefused}
use Rattle.jps_run.specs.Ending.{Fails, IsUnread, WroteFirstLines, WrotePart}
use Rattle.jps_run.specs.Live.{WroteHeard}
use Rattle.jps_run.specs.Serving.{WroteServed}
use Rattle.jps_run.specs.Calls.{files_of}
use Rattle.jps_run.specs.Outcome.{IsOutput}
use Rattle.jps_run.specs.Who.{replies_by}
use Rattle.line_work.specs.Sending.{IsAll, Wrote}
use Rattle.line_work.specs.Stops.{Stops, EndsOrStops}
use Rattle.line_work.specs.declared.stop.Stop.{Stop}

-- what is known where the work on a call stops
abbrev pub call_stops : Call → Disk → Disk → Inflow → Inflow → Outflow → Outflow → Stops
call_stops call disk disk_now input input_now out out_now = record {
  Refused = λ line. (HasRefused disk.holds (files_of call) line × Wrote out out_now [])
      ⊎ WroteHeard replies_by call disk.holds out out_now input.left (Some line);
  Read = Fails replies_by disk.holds input input_now out out_now disk disk_now call;
  Write = Rose out.faults out_now.faults
      × WrotePart replies_by disk.holds input input_now out out_now call;
  Memory = (Wrote out out_now [] × IsUnread input input_now call)
      ⊎ WroteFirstLines replies_by disk.holds input input_now out out_now call;
}

-- the work on a call came to the call's output, or it stops
abbrev pub EndsCall : Call → Disk → Disk → Inflow → Inflow → Outflow → Outflow → Result ℕ Stop → Type 0
EndsCall call disk disk_now input input_now out out_now result = EndsOrStops
    (λ status. (status ≤ 1)
    × (IsAll (IsOutput replies_by call disk.holds) out out_now status
    ⊎ ((status ≡ 0) × (WroteHeard replies_by call disk.holds out out_now input.left None
    ⊎ WroteServed replies_by call disk.holds out out_now input.left))))
    (call_stops call disk disk_now input input_now out out_now) result
