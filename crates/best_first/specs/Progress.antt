-- Where a search stands between two states.
use Rattle.std.specs.Prelude.{◌≡◌, ℕ, false, List, ◌∷◌, map, reverse}
use Rattle.grid_moves.specs.declared.Cell.{Cell}
use Rattle.grid_moves.specs.Move.{is_same}
use Rattle.search_run.specs.Run.{Taken, IsRun, NoneWaits, has_goal, is_taken, least_offer}
use Rattle.best_first.specs.declared.state.State.{State}
use Rattle.best_first.specs.declared.state.Layout.{Layout}
use Rattle.best_first.specs.State.{state_number, start_at}
use Rattle.best_first.specs.Rule.{Links, search_rule}
use Rattle.best_first.specs.Table.{Table}
use Rattle.best_first.specs.Mirror.{Offers, IsSearching}

-- the printed numbers of the taken states, in the order in which they were taken
abbrev pub numbers_of : ℕ → Links → List (Taken State) → List ℕ
numbers_of width link run = reverse (map (λ u. state_number width (link.arrived u.parent u.state)) run)

module _ (width : ℕ) (goal : Cell) (link : Links) (start : Cell) where
  -- the run took states of these numbers and ends, as none waits and no goal was taken
  pub record IsExhausted (taken : List ℕ) : Type 0 where
    pub run : List (Taken State)
    pub is_run : IsRun (search_rule width goal link) (start_at start) run
    pub no_goal : has_goal (search_rule width goal link) run ≡ false
    pub none_waits : NoneWaits (search_rule width goal link) run
    pub numbered : taken ≡ numbers_of width link run

module _ (layout : Layout) (width : ℕ) (goal : Cell) (link : Links) (start : Cell) where
  -- the search has taken states of these numbers, the last one with the node of this number
  pub record HasTaken (at : ℕ) (k : Table) (taken : List ℕ) : Type 0 where
    pub last : Taken State
    pub earlier : List (Taken State)
    pub searching : IsSearching layout width goal link start last earlier at
        (least_offer (search_rule width goal link) earlier) k
    pub numbered : taken ≡ numbers_of width link (last ∷ earlier)

  -- the search has made the offers of the last state too, which is no goal
  pub record HasOffered (at : ℕ) (k : Table) (taken : List ℕ) : Type 0 where
    pub last : Taken State
    pub earlier : List (Taken State)
    pub best : Offers
    pub searching : IsSearching layout width goal link start last earlier at best k
    pub open_ended : is_same last.state.cell goal ≡ false
    pub all_made : (s : State) → is_taken (search_rule width goal link) (last ∷ earlier) s ≡ false
        → best s ≡ least_offer (search_rule width goal link) (last ∷ earlier) s
    pub numbered : taken ≡ numbers_of width link (last ∷ earlier)
