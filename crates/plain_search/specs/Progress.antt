-- Where a plain search stands. No public clause cites this module.
use Rattle.std.specs.Prelude.{◌≡◌, ℕ, List, Option, Some, None, slice_get}
use Rattle.grid_moves.specs.declared.Cell.{Cell}
use Rattle.grid_moves.specs.Grid.{GridData}
use Rattle.best_first.specs.declared.state.Layout.TheVariants.{ByCell}
use Rattle.best_first.specs.Progress as search
use Rattle.best_first.specs.Table.{Table}
use Rattle.best_first.specs.Trace.{node_cell}
use Rattle.best_first.specs.declared.node.Node.{Node}
use Rattle.plain_search.specs.Answer.{IsExhausted}
use Rattle.plain_search.specs.Rule.{plain_links}

-- the search from s for t has taken states of these numbers, the last one with the node of this number
abbrev pub HasTaken : GridData → Cell → Cell → ℕ → Table → List ℕ → Type 0
HasTaken g s t at k taken = search.HasTaken ByCell g.width t (plain_links g) s at k taken

-- the search has taken one state more, or ends as none waits
abbrev pub GoesOn : GridData → Cell → Cell → Table → List ℕ → Option ℕ → Type 0
GoesOn g s t k taken None = IsExhausted g s t taken
GoesOn g s t k taken (Some id) = HasTaken g s t id k taken

-- the node of that number is the goal's
abbrev pub IsAtGoal : Cell → Table → ℕ → Type 0
IsAtGoal t k at = (n : Node) → slice_get k.nodes at ≡ Some n → node_cell n ≡ t

-- the search ended: it took the goal last, or none waits
abbrev pub HasEnded : GridData → Cell → Cell → Table → List ℕ → Option ℕ → Type 0
HasEnded g s t k taken None = IsExhausted g s t taken
HasEnded g s t k taken (Some at) = HasTaken g s t at k taken × IsAtGoal t k at
