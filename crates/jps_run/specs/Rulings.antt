-- The rows that judge what another program tells of a scenario's entries.
use Rattle.std.specs.Prelude.{ℕ, ◌+◌, Bool, true, false, nat_eq, if◌then◌else◌, List, [], ◌∷◌, ◌++◌}
use Rattle.std.specs.Prelude.{length, codes, decimal, count_by, map, zip}
use Rattle.root2_cost.specs.declared.Cost.{Cost}
use Rattle.grid_moves.specs.Layers.{Layers, query_grid}
use Rattle.scen_text.specs.declared.entry.Entry.{Entry}
use Rattle.walk_judge.specs.declared.judging.Judged.{Judged}
use Rattle.walk_judge.specs.declared.judging.Judged.TheVariants.{Least, NoWalk, BadWalk, Longer, Exists}
use Rattle.walk_judge.specs.declared.claims.Claimed.{Claimed}
use Rattle.walk_judge.specs.Judgement.{judgement_of}
use Rattle.scen_maker.specs.Settling.{settled_of}
use Rattle.scen_maker.specs.declared.costs.Settled.{Settled}
use Rattle.scen_maker.specs.declared.costs.Settled.TheVariants as settled
use Rattle.jps_run.specs.Parts.{Output}
use Rattle.jps_run.specs.declared.replies.ruling.Ruling.{Ruling}
use Rattle.jps_run.specs.declared.replies.ruling.Ruling.TheVariants as ruling

-- the row of an entry and of what is claimed of it: the entry is meant for another size; or an end lies
-- outside, or is blocked; else how what is claimed is judged on the grid of the query
abbrev pub ruling_by : Claimed → Layers → Settled → Ruling
ruling_by claimed ls settled.Scale = ruling.Scale
ruling_by claimed ls settled.Outside = ruling.Outside
ruling_by claimed ls settled.Blocked = ruling.Blocked
ruling_by claimed ls (settled.Searched from to least) =
    ruling.Judged (judgement_of (query_grid ls from) from to claimed least)

abbrev pub ruling_of : Layers → (Entry × Claimed) → Ruling
ruling_of ls both = ruling_by both.1 ls (settled_of ls both.0)

-- one row for each entry, by what is claimed of it
abbrev pub rulings_of : Layers → List Entry → List Claimed → List Ruling
rulings_of ls entries walks = map (ruling_of ls) (zip entries walks)

-- ` A B` of a cost
abbrev pub pair_text : Cost → List ℕ
pair_text cost = codes " " ++ decimal cost.a ++ codes " " ++ decimal cost.b

-- that a claimed walk is refused by its first bad point
abbrev pub bad_text : ℕ → List ℕ
bad_text bad = codes "refused walk " ++ decimal bad

-- how what is claimed is judged
abbrev pub judged_text : Judged → List ℕ
judged_text NoWalk = codes "accepted none"
judged_text (Least cost) = codes "accepted" ++ pair_text cost
judged_text (Exists least) = codes "refused none" ++ pair_text least
judged_text (BadWalk bad) = bad_text bad
judged_text (Longer paid least) = codes "refused longer" ++ pair_text paid ++ pair_text least

-- what a row says behind its number
abbrev pub ruling_text : Ruling → List ℕ
ruling_text ruling.Scale = codes "scale"
ruling_text ruling.Outside = codes "outside"
ruling_text ruling.Blocked = codes "blocked"
ruling_text (ruling.Judged how) = judged_text how

-- the line of the row with this number
abbrev pub ruling_line : ℕ → Ruling → List ℕ
ruling_line number r = codes "row " ++ decimal number ++ codes " " ++ ruling_text r ++ codes "\n"

-- the lines of the rows, which are numbered from this one on
abbrev pub ruling_lines : ℕ → List Ruling → List (List ℕ)
ruling_lines number [] = []
ruling_lines number (r ∷ rulings) = ruling_line number r ∷ ruling_lines (number + 1) rulings

-- what is claimed is accepted
abbrev pub is_accepted : Ruling → Bool
is_accepted (ruling.Judged NoWalk) = true
is_accepted (ruling.Judged (Least cost)) = true
is_accepted _ = false

-- what is claimed is refused
abbrev pub is_refused : Ruling → Bool
is_refused (ruling.Judged (Exists least)) = true
is_refused (ruling.Judged (BadWalk bad)) = true
is_refused (ruling.Judged (Longer paid least)) = true
is_refused _ = false

-- nothing is judged
abbrev pub is_unjudged : Ruling → Bool
is_unjudged (ruling.Judged how) = false
is_unjudged _ = true

-- the last line, which counts the rows
abbrev pub rulings_line : List Ruling → List ℕ
rulings_line rulings =
    codes "sum " ++ decimal (length rulings)
    ++ codes " accepted " ++ decimal (count_by is_accepted rulings)
    ++ codes " refused " ++ decimal (count_by is_refused rulings)
    ++ codes " other " ++ decimal (count_by is_unjudged rulings)
    ++ codes "\n"

-- the status is 1 where some row is refused
abbrev pub judge_status : List Ruling → ℕ
judge_status rulings = if nat_eq (count_by is_refused rulings) 0 then 0 else 1

-- all lines: a row for each entry, and the sum
abbrev pub judge_lines : List Ruling → List (List ℕ)
judge_lines rulings = ruling_lines 1 rulings ++ rulings_line rulings ∷ []

-- what is printed, and the status
abbrev pub judge_output : Layers → List Entry → List Claimed → Output
judge_output ls entries walks = record {
  lines = judge_lines (rulings_of ls entries walks);
  status = judge_status (rulings_of ls entries walks);
}
