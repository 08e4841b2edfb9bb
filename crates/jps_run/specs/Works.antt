-- The work of a call: what it prints, how far the counter rises for it, and what it needs.
use Rattle.std.specs.Prelude.{◌≡◌, ℕ, ◌≤◌, ◌^◌, ⊤, true, List, [], length}
use Rattle.jps_run.specs.Answerers.{CanAnswer, who_of}
use Rattle.call_files.specs.Reading.{AreKept}
use Rattle.jps_run.specs.declared.work.Work.{Work}
use Rattle.jps_run.specs.declared.work.Work.TheVariants as work
use Rattle.grid_answers.specs.Encoded.{IsEncoded}
use Rattle.grid_answers.specs.Printing.{AreWritten}
use Rattle.line_work.specs.Sending.{HasHead, IsText}
use Rattle.scen_lines.specs.Line.{version_line}
use Rattle.scen_maker.specs.Listing.{AreListed}
use Rattle.jps_run.specs.Rising.{RoseForEntries, RoseForCommands, RoseForQuery}
use Rattle.jps_run.specs.ScenRows.{AreAllRows}
use Rattle.jps_run.specs.Judging.{IsReady, IsJudged}
use Rattle.jps_run.specs.Tally.{tally_of}
use Rattle.jps_run.specs.Answering.{IsSolved}
use Rattle.jps_run.specs.Drilling.{IsDrilled, sums_of}
use Rattle.jps_run.specs.Pictures.{IsPictured}
use Rattle.jps_run.specs.Who.{who_is}

-- the whole output of the work, and the status
abbrev pub IsWhole : Work → List (List ℕ) → ℕ → Type 0
IsWhole (work.Answer job commands) = IsSolved job commands.items
IsWhole (work.Scen job entries) = AreAllRows job entries.items
IsWhole (work.Judge job entries) = IsJudged job entries.items
IsWhole (work.Lengths job entries) = HasHead version_line (AreListed job entries.items)
IsWhole (work.Drill job commands) = IsDrilled job commands.items
IsWhole (work.Draw canvas ends show) =
    IsPictured canvas (record { x = ends.sx; y = ends.sy }) (record { x = ends.gx; y = ends.gy }) show
IsWhole (work.Costs lines) = AreWritten lines
IsWhole (work.Tables file) = IsEncoded file
IsWhole (work.Print text status) = IsText text.items status
IsWhole (work.Say text) = IsText text.now 0

-- the counter rose as the searches of the work make it
abbrev pub HasRisen : Work → ℕ → ℕ → Type 0
HasRisen (work.Answer job commands) old new = RoseForCommands job.session commands.items old new
HasRisen (work.Scen job entries) old new = RoseForEntries (who_of job.answerer) entries.items old new
HasRisen (work.Judge job entries) old new = ⊤
HasRisen (work.Lengths job entries) old new = ⊤
HasRisen (work.Drill job commands) old new = RoseForCommands job.session commands.items old new
HasRisen (work.Draw canvas ends show) old new = RoseForQuery (who_is canvas.session)
    (record { x = ends.sx; y = ends.sy }) (record { x = ends.gx; y = ends.gy }) old new
HasRisen (work.Costs lines) old new = ⊤
HasRisen (work.Tables file) old new = ⊤
HasRisen (work.Print text status) old new = old ≤ new
HasRisen (work.Say text) old new = ⊤

-- the work can be done: queries can be answered, the lengths of entries can be judged, nothing is summed up
-- or left out yet, the sums of a drill have room, and so has a piece of a table file
abbrev pub CanPerform : Work → Type 0
CanPerform (work.Answer job commands) = ⊤
CanPerform (work.Scen job entries) = CanAnswer job.answerer × AreKept entries.items
    × (job.tally ≡ tally_of [])
CanPerform (work.Judge job entries) = IsReady job (length entries.items)
CanPerform (work.Lengths job entries) = job.all ≡ true
CanPerform (work.Drill job commands) = (length commands.items ≤ 2 ^ 32) × (job.sums ≡ sums_of [])
CanPerform (work.Draw canvas ends show) = ⊤
CanPerform (work.Costs lines) = ⊤
CanPerform (work.Tables file) = length file.room.items ≡ 65536
CanPerform (work.Print text status) = ⊤
CanPerform (work.Say text) = ⊤
