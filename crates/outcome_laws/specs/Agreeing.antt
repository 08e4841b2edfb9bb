-- What `lengths` and `problems` print is a scenario whose every length agrees.
use Rattle.std.specs.Prelude.{◌≡◌, ℕ, true, List, length, count_by, Ok}
use Rattle.std.specs.List.{concat, list_all}
use Rattle.grid_moves.specs.Layers.{AreLayers, Layers}
use Rattle.problem_maker.specs.Tries.{kept_of}
use Rattle.scen_text.specs.declared.entry.Entry.{Entry}
use Rattle.scen_text.specs.Faults.{scen_of}
use Rattle.scen_maker.specs.Lengths.{is_line, length_lines, lengths_answer}
use Rattle.scen_maker.specs.Problems.{problems_text}
use Rattle.jps_run.specs.Replies.{By}
use Rattle.jps_run.specs.Rows.{is_agree, is_near, is_off, is_other, rows_of, scen_status}
use Rattle.jps_run.specs.Who.{replies_by}
use Rattle.jps_run.specs.declared.replies.row.Row.{Row}

-- so many rows, each of them `agree`: so the last line counts as many and no other, and the status is 0
pub record AllAgree (many : ℕ) (rows : List Row) : Type 0 where
  pub agree : list_all is_agree rows ≡ true
  pub all : length rows ≡ many
  pub counted : count_by is_agree rows ≡ many
  pub near : count_by is_near rows ≡ 0
  pub off : count_by is_off rows ≡ 0
  pub other : count_by is_other rows ≡ 0
  pub status : scen_status rows ≡ 0

-- the text is a scenario of so many entries; and whoever answers on these grids, all its rows are `agree`
pub record IsAgreed (ls : Layers) (text : List ℕ) (many : ℕ) : Type 0 where
  pub entries : List Entry
  pub read : scen_of text ≡ Ok entries
  pub many_read : length entries ≡ many
  pub agree : (by : By) → AllAgree many (rows_of (replies_by by) ls entries)

-- so is a scenario that was written again with the least lengths: an entry for each line below the first
abbrev pub LengthsAgree : Type 0
LengthsAgree = (ls : Layers) (text : List ℕ) (entries : List Entry) → AreLayers ls → scen_of text ≡ Ok entries
    → IsAgreed ls (concat (lengths_answer ls text entries)) (count_by is_line (length_lines ls text entries))

-- and one that was made from a number: an entry for each try that was kept
abbrev pub ProblemsAgree : Type 0
ProblemsAgree = (ls : Layers) (word : List ℕ) (seed count : ℕ) → AreLayers ls
    → IsAgreed ls (problems_text ls word seed count) (length (kept_of ls seed count))
