-- A scenario again, with the least lengths on a map.
use Rattle.std.specs.Prelude.{◌≡◌, ℕ, Bool, true, false, if◌then◌else◌, List, [], ◌∷◌, map, Option, Some}
use Rattle.std.specs.Prelude.{None, codes, refl}
use Rattle.std.specs.Fmt.{digits}
use Rattle.std.specs.List.{list_all}
use Rattle.root2_cost.specs.declared.Cost.{Cost}
use Rattle.grid_moves.specs.Layers.{Layers, shore}
use Rattle.scen_lines.specs.declared.line.Problem.{Problem}
use Rattle.scen_lines.specs.Line.{entry_line, listed_of, root, version_line}
use Rattle.scen_text.specs.declared.entry.Entry.{Entry}
use Rattle.scen_text.specs.Names.{bytes_at}
use Rattle.scen_maker.specs.Settling.{least_in, on_shore, settled_of}

-- the line of a query on the map of this name, with the bucket and the length of this cost
abbrev pub problem_line : List ℕ → Problem → Cost → List ℕ
problem_line name query cost = entry_line name (listed_of query cost)

-- the query of an entry
abbrev pub problem_of : Entry → Problem
problem_of entry =
    record { w = entry.w; h = entry.h; sx = entry.sx; sy = entry.sy; gx = entry.gx; gy = entry.gy }

-- the line of an entry with this least cost, with its name in the text; where it has none nothing stands in
-- place of a line
abbrev pub line_with : List ℕ → Entry → Option Cost → List ℕ
line_with text entry None = []
line_with text entry (Some cost) = problem_line (bytes_at text entry.name) (problem_of entry) cost

-- so it is for the least cost of the entry's query on a map's grids
abbrev pub length_line : Layers → List ℕ → Entry → List ℕ
length_line ls text entry = line_with text entry (least_in (settled_of ls entry))

-- one line for each entry of the text, or nothing
abbrev pub length_lines : Layers → List ℕ → List Entry → List (List ℕ)
length_lines ls text entries = map (length_line ls text) entries

-- something stands there
abbrev pub is_line : List ℕ → Bool
is_line [] = false
is_line (byte ∷ bytes) = true

-- the status is 1 where some entry has no line
abbrev pub lengths_status : List (List ℕ) → ℕ
lengths_status lines = if list_all is_line lines then 0 else 1

-- the scenario with the least lengths: the first line, and below it those of the entries
abbrev pub lengths_answer : Layers → List ℕ → List Entry → List (List ℕ)
lengths_answer ls text entries = version_line ∷ length_lines ls text entries

-- worked rows: one straight move down, and an end outside the map
pub one_move_down : line_with (codes "shore") (on_shore 0 0 0 1) (Some (record { a = 1; b = 0 }))
    ≡ codes "0\tshore\t3\t2\t0\t0\t0\t1\t1.00000000\n"
unfolding digits root
one_move_down = refl

pub one_has_none : lengths_status (length_lines shore (codes "shore") (on_shore 0 0 3 0 ∷ [])) ≡ 1
one_has_none = refl
