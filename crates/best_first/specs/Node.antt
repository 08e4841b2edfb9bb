-- How nodes of a search are ordered, and what they stand for.
use Rattle.std.specs.Prelude.{Bool, nat_lt, nat_eq, ◌&&◌, ◌||◌}
use Rattle.best_first.specs.declared.node.Node.{Node}
use Rattle.best_first.specs.declared.state.State.{State}
use Rattle.best_first.specs.declared.state.Layout.{Layout}
use Rattle.best_first.specs.State.{state_in, state_of_place}

-- by the lesser key, and where the keys are equal by the lesser place
abbrev pub ranks_before : Node → Node → Bool
ranks_before m n = nat_lt m.key n.key || (nat_eq m.key n.key && nat_lt m.place.bits n.place.bits)

-- the state that the node is of
abbrev pub state_of : Layout → Node → State
state_of layout n = state_in layout (state_of_place n.place)
