-- Longest runs of equal members of a list.
use Rattle.std.specs.Prelude.{◌≡◌, ℕ, ◌+◌, Bool, true, false, if◌then◌else◌, List, [], ◌∷◌, Option, Some}
use Rattle.std.specs.Prelude.{None, refl}
use Rattle.grid_moves.specs.declared.Dir.{Dir}
use Rattle.grid_moves.specs.declared.Dir.TheVariants.{E, SE, S}
use Rattle.grid_moves.specs.Move.{is_dir}
use Rattle.first_moves.specs.declared.row.Run.{Run}

-- two first moves are equal; where there is none, that equals another such
abbrev pub is_same_move : Option Dir → Option Dir → Bool
is_same_move None None = true
is_same_move None (Some e) = false
is_same_move (Some d) None = false
is_same_move (Some d) (Some e) = is_dir d e

-- the runs that begin in a list whose first member has place k, after this member
abbrev pub runs_from : ℕ → Option Dir → List (Option Dir) → List Run
runs_from k before [] = []
runs_from k before (m ∷ members) =
    if is_same_move before m then runs_from (k + 1) before members
    else record { start = k; first = m } ∷ runs_from (k + 1) m members

-- the longest runs of equal members, each with the place where it begins
abbrev pub runs_of : List (Option Dir) → List Run
runs_of [] = []
runs_of (m ∷ members) = record { start = 0; first = m } ∷ runs_from 1 m members

-- from the upper left of an open map of 3 columns and 3 rows
pub seven_runs : runs_of (None ∷ Some E ∷ Some E ∷ Some S ∷ Some SE ∷ Some E ∷ Some S ∷ Some SE
    ∷ Some SE ∷ [])
    ≡ record { start = 0; first = None } ∷ record { start = 1; first = Some E }
    ∷ record { start = 3; first = Some S }
    ∷ record { start = 4; first = Some SE } ∷ record { start = 5; first = Some E }
    ∷ record { start = 6; first = Some S }
    ∷ record { start = 7; first = Some SE } ∷ []
seven_runs = refl

-- where no move leads anywhere, there is one
pub one_run : runs_of (None ∷ None ∷ None ∷ None ∷ []) ≡ record { start = 0; first = None } ∷ []
one_run = refl
