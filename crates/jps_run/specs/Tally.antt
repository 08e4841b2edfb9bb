-- Counts of rows.
use Rattle.std.specs.Prelude.{◌≡◌, ℕ, ◌*◌, ◌^◌, ◌≤◌, ◌++◌, List, length, count_by, codes, decimal, refl}
use Rattle.std.specs.List.{sum_by}
use Rattle.word_list.specs.declared.request.Show.{Show}
use Rattle.jps_run.specs.declared.replies.row.Row.{Row}
use Rattle.jps_run.specs.declared.replies.row.Tally.{Tally}
use Rattle.jps_run.specs.Rows.{is_agree, is_near, is_off, is_other, states_in, count_text, sum_line}

-- how many rows there are, how many of each kind, and how many states were taken for them
abbrev pub tally_of : List Row → Tally
tally_of rows = record {
  rows = length rows;
  agree = count_by is_agree rows;
  near = count_by is_near rows;
  off = count_by is_off rows;
  other = count_by is_other rows;
  taken = sum_by states_in rows;
}

-- these are counts of some rows
pub record IsTally (tally : Tally) : Type 0 where
  pub rows : List Row
  pub counted : tally ≡ tally_of rows

-- fewer states than 2^64 were taken for each row
abbrev pub IsSmall : Tally → Type 0
IsSmall tally = tally.taken ≤ tally.rows * 2 ^ 64

-- the last line, by the counts, and its end behind the rows that are agree or near
abbrev pub sum_end : Show → Tally → List ℕ
sum_end show tally =
    codes " off " ++ decimal tally.off
    ++ codes " other " ++ decimal tally.other
    ++ count_text show tally.taken
    ++ codes "\n"

abbrev pub sum_text : Show → Tally → List ℕ
sum_text show tally =
    codes "sum " ++ decimal tally.rows
    ++ codes " agree " ++ decimal tally.agree
    ++ codes " near " ++ decimal tally.near
    ++ sum_end show tally

pub sum_text-counted : (show : Show) (rows : List Row) → sum_text show (tally_of rows) ≡ sum_line show rows
sum_text-counted show rows = refl
