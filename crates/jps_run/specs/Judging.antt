-- How far the judging of claimed walks has come.
use Rattle.std.specs.Prelude.{◌≡◌, ℕ, ◌+◌, ◌^◌, ◌<◌, ◌≤◌, ◌++◌, List, [], length, count_by, codes, decimal}
use Rattle.scen_text.specs.declared.entry.Entry.{Entry}
use Rattle.call_files.specs.Reading.{AreFit}
use Rattle.jps_run.specs.Parts.{Prints}
use Rattle.jps_run.specs.Rulings.{is_accepted, is_refused, is_unjudged, judge_output}
use Rattle.jps_run.specs.Rulings.{ruling_lines, rulings_of}
use Rattle.jps_run.specs.declared.replies.judge.Judge.{Judge}
use Rattle.jps_run.specs.declared.replies.ruling.Counts.{Counts}
use Rattle.jps_run.specs.declared.replies.ruling.Ruling.{Ruling}

-- how many rows there are, and how many of each kind
abbrev pub counts_of : List Ruling → Counts
counts_of rulings = record {
  rows = length rulings;
  accepted = count_by is_accepted rulings;
  refused = count_by is_refused rulings;
  other = count_by is_unjudged rulings;
}

-- these are counts of some rows
pub record IsCounts (counts : Counts) : Type 0 where
  pub rulings : List Ruling
  pub counted : counts ≡ counts_of rulings

-- the last line, by the counts
abbrev pub sum_text : Counts → List ℕ
sum_text counts =
    codes "sum " ++ decimal counts.rows
    ++ codes " accepted " ++ decimal counts.accepted
    ++ codes " refused " ++ decimal counts.refused
    ++ codes " other " ++ decimal counts.other
    ++ codes "\n"

-- the rows of entries by this job
abbrev pub rulings_by : Judge → List Entry → List Ruling
rulings_by job entries = rulings_of job.costs entries job.walks.items

-- the entries have their rows with these lines, and the rows are counted
pub record HasJudged (first now : Judge) (entries : List Entry) (lines : List (List ℕ)) : Type 0 where
  pub all : lines ≡ ruling_lines 1 (rulings_by first entries)
  pub as_many : length (rulings_by first entries) ≡ length entries
  pub counted : now.counts ≡ counts_of (rulings_by first entries)
  pub same : now.costs ≡ first.costs
  pub claimed : now.walks ≡ first.walks

-- nothing is judged yet, and there are walks for so many entries
pub record IsReady (job : Judge) (entries : ℕ) : Type 0 where
  pub fit : AreFit job.walks.items
  pub none : job.counts ≡ counts_of []
  pub enough : entries ≤ length job.walks.items

-- the walks can be judged, the rows are counted, and walks and room are left for so many more
pub record CanGoOn (job : Judge) (more : ℕ) : Type 0 where
  pub fit : AreFit job.walks.items
  pub counts : IsCounts job.counts
  pub left : job.counts.rows + more ≤ length job.walks.items
  pub few : job.counts.rows + more < 2 ^ 64

-- the lines are a row for each entry and the sum, and the status is that of the rows
abbrev pub IsJudged : Judge → List Entry → List (List ℕ) → ℕ → Type 0
IsJudged first entries = Prints (judge_output first.costs entries first.walks.items)
