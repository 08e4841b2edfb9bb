-- How far the rows of a scenario have come.
use Rattle.std.specs.Prelude.{◌≡◌, ℕ, ◌+◌, ◌^◌, ◌<◌, List}
use Rattle.scen_text.specs.declared.entry.Entry.{Entry}
use Rattle.jps_run.specs.Answerers.{CanAnswer, who_of}
use Rattle.jps_run.specs.Parts.{Prints}
use Rattle.jps_run.specs.Rising.{RoseForEntries}
use Rattle.jps_run.specs.Rows.{row_lines, rows_of, scen_output}
use Rattle.jps_run.specs.Tally.{IsSmall, IsTally, tally_of}
use Rattle.jps_run.specs.Who.{replies_by}
use Rattle.jps_run.specs.declared.replies.row.Row.{Row}
use Rattle.jps_run.specs.declared.replies.scenario.Scen.{Scen}

-- the rows of entries by this job
abbrev pub rows_by : Scen → List Entry → List Row
rows_by job entries = rows_of (replies_by (who_of job.answerer).by) (who_of job.answerer).layers entries

-- the entries have their rows with these lines, by one who can answer, and the rows are counted
pub record HasRows (first now : Scen) (entries : List Entry) (lines : List (List ℕ)) : Type 0 where
  pub ready : CanAnswer first.answerer
  pub all : lines ≡ row_lines first.show 1 (rows_by first entries)
  pub counted : now.tally ≡ tally_of (rows_by first entries)
  pub same : now.answerer ≡ first.answerer
  pub shown : now.show ≡ first.show

-- the rows are counted, there is room for so many more, and they can be answered
pub record HasRoom (job : Scen) (more : ℕ) : Type 0 where
  pub ready : CanAnswer job.answerer
  pub counts : IsTally job.tally
  pub small : IsSmall job.tally
  pub few : job.tally.rows + more < 2 ^ 64

-- the counter rose for these entries, by a job that goes on
pub record HaveCounted (first now : Scen) (entries : List Entry) (old new : ℕ) : Type 0 where
  pub rose : RoseForEntries (who_of first.answerer) entries old new
  pub same : now.answerer ≡ first.answerer

-- the lines are a row for each entry and the sum, and the status is that of the rows
abbrev pub AreAllRows : Scen → List Entry → List (List ℕ) → ℕ → Type 0
AreAllRows first entries = Prints (scen_output (replies_by (who_of first.answerer).by) first.show
    (who_of first.answerer).layers entries)
