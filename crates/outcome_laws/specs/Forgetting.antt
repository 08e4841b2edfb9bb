-- Rows that differ in their counts of taken states alone.
use Rattle.std.specs.Prelude.{◌≡◌, ◌≢◌, List, map}
use Rattle.word_list.specs.declared.request.Show.{Show}
use Rattle.word_list.specs.declared.request.Show.TheVariants.{Taken}
use Rattle.jps_run.specs.Rows.{scen_lines, scen_status}
use Rattle.jps_run.specs.declared.replies.row.Row.{Row}
use Rattle.jps_run.specs.declared.replies.row.Row.TheVariants as row

-- the row with no count of taken states
abbrev pub without_taken : Row → Row
without_taken row.Scale = row.Scale
without_taken row.Outside = row.Outside
without_taken row.Blocked = row.Blocked
without_taken (row.None taken) = row.None 0
without_taken (row.Judged verdict cost taken) = row.Judged verdict cost 0

-- without these counts the rows are the same; where they are not shown the lines are, and so is the status
pub record DifferInTaken (rows others : List Row) : Type 0 where
  pub same : map without_taken rows ≡ map without_taken others
  pub lines : (show : Show) → show ≢ Taken → scen_lines show rows ≡ scen_lines show others
  pub status : scen_status rows ≡ scen_status others
