-- Where a boxed search stands. No public clause cites this module.
use Rattle.std.specs.Prelude.{ℕ, List, Option, Some, None}
use Rattle.grid_moves.specs.declared.Cell.{Cell}
use Rattle.grid_moves.specs.Grid.{GridData}
use Rattle.best_first.specs.declared.state.Layout.TheVariants.{ByCell}
use Rattle.best_first.specs.Progress as search
use Rattle.best_first.specs.Table.{Table}
use Rattle.goal_boxes.specs.Answer.{IsExhausted}
use Rattle.goal_boxes.specs.Box.{BoxTeller}
use Rattle.goal_boxes.specs.Rule.{boxed_links}

-- the search from s for t has taken states of these numbers, the last one with the node of this number
abbrev pub HasTaken : GridData → BoxTeller → Cell → Cell → ℕ → Table → List ℕ → Type 0
HasTaken g box s t at k taken = search.HasTaken ByCell g.width t (boxed_links g box t) s at k taken

-- the search has taken one state more, or ends as none waits
abbrev pub GoesOn : GridData → BoxTeller → Cell → Cell → Table → List ℕ → Option ℕ → Type 0
GoesOn g box s t k taken None = IsExhausted g box s t taken
GoesOn g box s t k taken (Some id) = HasTaken g box s t id k taken
