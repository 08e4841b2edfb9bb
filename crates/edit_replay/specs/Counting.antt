-- How many steps a query counts.
use Rattle.std.specs.Prelude.{ℕ, ◌+◌, ◌-◌, ◌*◌, ◌≤◌, ⊤, length, Option, Some, MatchOption}
use Rattle.std.specs.Prelude as option
use Rattle.edit_replay.specs.declared.engine.Engine.{Engine}
use Rattle.edit_replay.specs.declared.engine.Engine.TheVariants.{Plain, Jps, Block, Plus}
use Rattle.edit_replay.specs.declared.reply.Reply.{Reply}
use Rattle.edit_replay.specs.declared.reply.Reply.TheVariants.{Walk, None, Outside, Blocked}

-- the most steps that an engine counts for a state that it takes, where this is known
abbrev pub most_of : Engine → Option ℕ
most_of Plain = Some 0
most_of (Jps layout) = Some 0
most_of (Block layout) = option.None
most_of (Plus layout) = Some 24

-- the fewest steps that it counts for a state that it takes away from the goal
abbrev pub fewest_of : Engine → ℕ
fewest_of Plain = 0
fewest_of (Jps layout) = 0
fewest_of (Block layout) = 3
fewest_of (Plus layout) = 8

-- how many states the search took
abbrev pub states_taken : Reply → ℕ
states_taken (Walk points cost taken) = length taken
states_taken (None taken) = length taken
states_taken Outside = 0
states_taken Blocked = 0

-- how many of them lie away from the goal: all, or, where a walk was found, all but the last
abbrev pub states_away : Reply → ℕ
states_away (Walk points cost taken) = length taken - 1
states_away (None taken) = length taken
states_away Outside = 0
states_away Blocked = 0

-- where a most is known, the counter rose by no more than that for each state that was taken
abbrev pub RoseWithin : Option ℕ → ℕ → ℕ → Reply → Type 0
RoseWithin most old new reply = MatchOption most ⊤ (λ known. new ≤ old + states_taken reply * known)

-- it rose by at least so much for each state that was taken away from the goal
abbrev pub RoseByStates : ℕ → ℕ → ℕ → Reply → Type 0
RoseByStates fewest old new reply = old + states_away reply * fewest ≤ new
