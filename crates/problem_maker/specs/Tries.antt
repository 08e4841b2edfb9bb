-- Tries: pairs of free cells from a seed, and which of them are kept.
use Rattle.std.specs.Prelude.{ℕ, ◌+◌, ◌*◌, ◌%◌, Bool, nat_eq, not, ◌&&◌, if◌then◌else◌, List, [], ◌∷◌}
use Rattle.std.specs.Prelude.{length, take, slice_index_or, bit_xor, is_some}
use Rattle.std.specs.List.{filter}
use Rattle.grid_moves.specs.declared.Cell.{Cell}
use Rattle.grid_moves.specs.Grid.{GridData, is_free}
use Rattle.grid_moves.specs.Layers.{Layers, query_grid}
use Rattle.grid_moves.specs.Move.{is_same}
use Rattle.map_maker.specs.Words.{words_of}
use Rattle.plain_search.specs.Costs.{least_cost}
use Rattle.grid_moves.specs.declared.ends.Ends.{Ends}
use Rattle.problem_maker.specs.Free.{free_cells}

-- the cell at a word modulo the number of cells
abbrev pub cell_at : List Cell → ℕ → Cell
cell_at cells word = slice_index_or cells (word % length cells) (record { x = 0; y = 0 })

-- a try takes two words: the first tells its start, the second its goal
unfoldable pub tries_by : List Cell → List ℕ → List Ends
tries_by cells [] = []
tries_by cells (v ∷ []) = []
tries_by cells (v ∷ w ∷ words) = record { from = cell_at cells v; to = cell_at cells w }
    ∷ tries_by cells words

-- so many tries, by the words of the seed exclusive-or 2; where there is no cell there is no try
abbrev pub tries : List Cell → ℕ → ℕ → List Ends
tries cells seed n = if nat_eq (length cells) 0 then []
    else tries_by cells (words_of (bit_xor seed 2) (2 * n))

-- a try is kept where start and goal differ and are joined
abbrev pub is_kept : (Cell → Cell → Bool) → Ends → Bool
is_kept joined ends = not (is_same ends.from ends.to) && joined ends.from ends.to

-- so many tries at most where so many are wanted
abbrev pub most_tries : ℕ → ℕ
most_tries count = 10 * count + 100

-- of all these tries the kept ones, as many as are wanted
abbrev pub kept_ends : (Cell → Cell → Bool) → List Cell → ℕ → ℕ → List Ends
kept_ends joined cells seed count = take count (filter (is_kept joined) (tries cells seed (most_tries count)))

-- a walk leads from one cell of the grid to another
abbrev pub leads_on : GridData → Cell → Cell → Bool
leads_on g s t = is_free g s && is_some (least_cost g s t)

-- a walk leads from s to t on the grid of a query from s
abbrev pub leads : Layers → Cell → Cell → Bool
leads ls s t = leads_on (query_grid ls s) s t

-- the kept ones of a map, as many as are wanted: a walk leads from one end to the other
abbrev pub kept_of : Layers → ℕ → ℕ → List Ends
kept_of ls seed count = kept_ends (leads ls) (free_cells ls) seed count
