-- Printed numbers tell apart the states that links lead to.
use Rattle.std.proofs.Common.{◌≡◌, ℕ, ◌<◌, arith}
use Rattle.grid_moves.specs.declared.Cell.{Cell}
use Rattle.grid_moves.proofs.Places.{one_cell}
use Rattle.search_run.specs.Laws.{NumbersTellStates}
use Rattle.best_first.specs.declared.state.State.{State}
use Rattle.best_first.specs.State.{state_number}
use Rattle.best_first.specs.Rule.{Links, AreLinks, search_rule}
use Rattle.best_first.proofs.States.{arrival_small, one_arrival, same_state}

-- states of one number, on a map of this width, are one state
one_state : (width : ℕ) (s t : State) → s.cell.x < width → t.cell.x < width
    → state_number width s ≡ state_number width t → s ≡ t
one_state width s t h k e = grind (arith, arrival_small, same_state, one_cell, one_arrival)

pub numbers_tell : (width height : ℕ) (goal : Cell) (link : Links) → AreLinks width height link
    → NumbersTellStates (search_rule width goal link)
numbers_tell width height goal link are = grind (arith, one_state)
