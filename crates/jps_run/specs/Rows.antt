-- The rows that judge a scenario.
use Rattle.std.specs.Fmt.{digits}
use Rattle.std.specs.Prelude.{◌≡◌, refl, ℕ, ◌+◌, Bool, true, false, ◌||◌, if◌then◌else◌, List, []}
use Rattle.std.specs.Prelude.{◌∷◌, ◌++◌, length, codes, decimal, count_by, map}
use Rattle.std.specs.List.{list_all, sum_by}
use Rattle.root2_cost.specs.declared.lengths.Decimal.{Decimal}
use Rattle.root2_cost.specs.declared.lengths.Verdict.{Verdict}
use Rattle.root2_cost.specs.declared.lengths.Verdict.TheVariants.{Agree, Near, Off}
use Rattle.root2_cost.specs.Verdict.{verdict_of}
use Rattle.edit_replay.specs.declared.reply.Reply.{Reply}
use Rattle.edit_replay.specs.declared.reply.Reply.TheVariants as reply
use Rattle.scen_text.specs.declared.entry.Entry.{Entry}
use Rattle.word_list.specs.declared.request.Show.{Show}
use Rattle.word_list.specs.declared.request.Show.TheVariants.{Points, Cells, Trace, Taken}
pub use Rattle.scen_maker.specs.Settling.{goal_of, has_sides, start_of}
use Rattle.grid_moves.specs.Layers.{Layers, layers_of}
use Rattle.grid_moves.specs.declared.Corner.TheVariants.{Never}
use Rattle.jps_run.specs.Parts.{Output, printed}
use Rattle.jps_run.specs.Replies.{Replies}
use Rattle.jps_run.specs.declared.replies.row.Row.{Row}
use Rattle.jps_run.specs.declared.replies.row.Row.TheVariants as row

-- what a reply makes of an entry with this length
abbrev pub row_of : Decimal → Reply → Row
row_of listed reply.Outside = row.Outside
row_of listed reply.Blocked = row.Blocked
row_of listed (reply.None taken) = row.None (length taken)
row_of listed (reply.Walk points cost taken) = row.Judged (verdict_of listed cost) cost (length taken)

-- the row of an entry: of another size, or what the reply to its query makes of it
abbrev pub row_for : Replies → Layers → Entry → Row
row_for replies ls entry =
    if has_sides ls entry
    then row_of entry.length (replies ls (start_of entry) (goal_of entry)) else row.Scale

-- one row for each entry
abbrev pub rows_of : Replies → Layers → List Entry → List Row
rows_of replies ls entries = map (row_for replies ls) entries

-- a verdict's word
abbrev pub verdict_text : Verdict → List ℕ
verdict_text Agree = codes "agree"
verdict_text Near = codes "near"
verdict_text Off = codes "off"

-- how many states were taken, where this is shown
abbrev pub count_text : Show → ℕ → List ℕ
count_text Points count = []
count_text Cells count = []
count_text Trace count = []
count_text Taken count = codes " taken " ++ decimal count

-- what a row says behind its number
abbrev pub row_text : Show → Row → List ℕ
row_text show row.Scale = codes "scale"
row_text show row.Outside = codes "outside"
row_text show row.Blocked = codes "blocked"
row_text show (row.None taken) = codes "none" ++ count_text show taken
row_text show (row.Judged verdict cost taken) =
    verdict_text verdict ++ codes " " ++ decimal cost.a ++ codes " " ++ decimal cost.b
    ++ count_text show taken

-- the line of the row with this number
abbrev pub row_line : Show → ℕ → Row → List ℕ
row_line show number r = codes "row " ++ decimal number ++ codes " " ++ row_text show r ++ codes "\n"

-- the lines of the rows, which are numbered from this one on
abbrev pub row_lines : Show → ℕ → List Row → List (List ℕ)
row_lines show number [] = []
row_lines show number (r ∷ rows) = row_line show number r ∷ row_lines show (number + 1) rows

-- the row has this verdict
abbrev pub is_agree : Row → Bool
is_agree (row.Judged Agree cost taken) = true
is_agree _ = false

abbrev pub is_near : Row → Bool
is_near (row.Judged Near cost taken) = true
is_near _ = false

abbrev pub is_off : Row → Bool
is_off (row.Judged Off cost taken) = true
is_off _ = false

-- the row has no verdict
abbrev pub is_other : Row → Bool
is_other (row.Judged verdict cost taken) = false
is_other _ = true

-- how many states were taken for a row; none where nothing was searched
abbrev pub states_in : Row → ℕ
states_in (row.None taken) = taken
states_in (row.Judged verdict cost taken) = taken
states_in _ = 0

-- the last line, which counts the rows, and its end behind those that are agree or near
abbrev pub sum_line_end : Show → List Row → List ℕ
sum_line_end show rows =
    codes " off " ++ decimal (count_by is_off rows)
    ++ codes " other " ++ decimal (count_by is_other rows)
    ++ count_text show (sum_by states_in rows)
    ++ codes "\n"

abbrev pub sum_line : Show → List Row → List ℕ
sum_line show rows =
    codes "sum " ++ decimal (length rows)
    ++ codes " agree " ++ decimal (count_by is_agree rows)
    ++ codes " near " ++ decimal (count_by is_near rows)
    ++ sum_line_end show rows

-- the status is 1 where some row is neither agree nor near
abbrev pub scen_status : List Row → ℕ
scen_status rows = if list_all (λ r. is_agree r || is_near r) rows then 0 else 1

-- all lines: a row for each entry, and the sum
abbrev pub scen_lines : Show → List Row → List (List ℕ)
scen_lines show rows = row_lines show 1 rows ++ sum_line show rows ∷ []

-- what is printed, and the status
abbrev pub scen_output : Replies → Show → Layers → List Entry → Output
scen_output replies show ls entries = record {
  lines = scen_lines show (rows_of replies ls entries);
  status = scen_status (rows_of replies ls entries);
}

-- a worked row: a scenario with no entry
pub no_entries : scen_output (λ ls s t. reply.Outside) Points (layers_of Never 1 1 (codes ".")) []
    ≡ printed (codes "sum 0 agree 0 near 0 off 0 other 0\n") 0
unfolding digits
no_entries = refl
