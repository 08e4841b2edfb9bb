-- The same as tests that compute: what is offered as a list, and whether a list is a run.
use Rattle.std.specs.Prelude.{ℕ, zero, suc, Bool, true, false, not, ◌&&◌, ◌||◌, List, [], ◌∷◌, ◌++◌}
use Rattle.std.specs.Prelude.{Option, Some, None, unwrap_or, if◌then◌else◌}
use Rattle.root2_cost.specs.Signed.{is_signed_less}
use Rattle.root2_cost.specs.Sums.{add_costs, is_same_cost}
use Rattle.grid_moves.specs.declared.Cell.{Cell}
use Rattle.grid_moves.specs.declared.Dir.{Dir}
use Rattle.grid_moves.specs.Move.{all_dirs, is_same, is_dir}
use Rattle.pruning.specs.declared.Arrival.{Arrival}
use Rattle.pruning.specs.declared.Arrival.TheVariants.{Start, By}
use Rattle.pruning.specs.Allowed.{is_allowed}
use Rattle.pruning.specs.Chain.{run_cost}
use Rattle.pruning.specs.First.{first_stop, run_length}
use Rattle.pruning.specs.Marked.{run_end}
use Rattle.one_state.specs.Search.{Search, Taken, begins, as_reached, sum_of}

-- what u offers where so many moves in d lead to this cell
abbrev pub landing : Taken → Dir → ℕ → Option Cell → List Taken
landing u d k None = []
landing u d k (Some c) = record {
  state = record { cell = c; arrival = By d };
  cost = add_costs u.cost (run_cost d k);
  parent = u.state.cell;
} ∷ []

-- what it offers in d by at most so many moves
abbrev pub offers_within : Search → Taken → Dir → ℕ → List Taken
offers_within p u d zero = []
offers_within p u d (suc k) =
    (if p.stops (as_reached u) d (suc k)
    then landing u d (suc k) (run_end p.grid d (suc k) u.state.cell) else [])
    ++ offers_within p u d k

-- as far as it may stop: to the first stop, or where there is none, to the end of the legal run
abbrev pub reach : Search → Taken → Dir → ℕ
reach p u d =
    unwrap_or (first_stop p.grid p.goal u.state.cell d) (run_length p.grid u.state.cell d)

-- in these directions, where they are allowed
abbrev pub offers_in : Search → Taken → List Dir → List Taken
offers_in p u [] = []
offers_in p u (d ∷ dirs) =
    (if is_allowed p.grid u.state.cell u.state.arrival d then offers_within p u d (reach p u d) else [])
    ++ offers_in p u dirs

-- in all
abbrev pub offers_of : Search → Taken → List Taken
offers_of p u = offers_in p u all_dirs

-- the cell is that of one of these
abbrev pub has_cell : List Taken → Cell → Bool
has_cell [] v = false
has_cell (x ∷ taken) v = is_same x.state.cell v || has_cell taken v

-- those of these whose cell none of the taken has
abbrev pub fresh_of : List Taken → List Taken → List Taken
fresh_of taken [] = []
fresh_of taken (x ∷ offers) =
    if has_cell taken x.state.cell then fresh_of taken offers else (x ∷ fresh_of taken offers)

-- what all of these offer
abbrev pub offers_by : Search → List Taken → List Taken
offers_by p [] = []
offers_by p (u ∷ taken) = offers_of p u ++ offers_by p taken

-- what is offered
abbrev pub offered_by : Search → List Taken → List Taken
offered_by p taken = fresh_of taken (offers_by p taken)

abbrev pub is_same_arrival : Arrival → Arrival → Bool
is_same_arrival Start Start = true
is_same_arrival Start (By e) = false
is_same_arrival (By d) Start = false
is_same_arrival (By d) (By e) = is_dir d e

-- the two are one
abbrev pub is_same_taken : Taken → Taken → Bool
is_same_taken x y =
    is_same x.state.cell y.state.cell && is_same_arrival x.state.arrival y.state.arrival
    && is_same_cost x.cost y.cost && is_same x.parent y.parent

-- x is one of these
abbrev pub is_among : Taken → List Taken → Bool
is_among x [] = false
is_among x (y ∷ all) = is_same_taken x y || is_among x all

-- none of these has a lesser sum than x
abbrev pub none_less : Search → Taken → List Taken → Bool
none_less p x [] = true
none_less p x (y ∷ all) = not (is_signed_less (sum_of p y) (sum_of p x)) && none_less p x all

-- x is next
abbrev pub is_next : Search → List Taken → Taken → Bool
is_next p taken x = is_among x (offered_by p taken) && none_less p x (offered_by p taken)

-- these are a run
abbrev pub is_run : Search → List Taken → Bool
is_run p [] = false
is_run p (x ∷ []) = is_same_taken x (begins p)
is_run p (x ∷ y ∷ earlier) =
    is_run p (y ∷ earlier) && not (has_cell (y ∷ earlier) p.goal) && is_next p (y ∷ earlier) x
