-- What a session stands for, and what its replies do.
use Rattle.std.specs.Prelude.{◌≡◌, ℕ, ◌+◌, ◌^◌, ◌<◌, true, false, ◌&&◌, ◌⊎◌, ⊤, MatchBool, List, [], ◌∷◌}
use Rattle.std.specs.Prelude.{◌++◌}
use Rattle.root2_cost.specs.declared.Cost.{Cost}
use Rattle.grid_moves.specs.declared.Cell.{Cell}
use Rattle.grid_moves.specs.declared.Ground.{Ground}
use Rattle.grid_moves.specs.Grid.{GridData, is_free, is_ground}
use Rattle.grid_moves.specs.Layers.{Layers, ground_at, is_on_map, layers_with, query_grid}
use Rattle.grid_moves.specs.Reply.{Answer, outside, blocked, none, walk, StandsForLeast}
use Rattle.grid_moves.specs.Walk.{NoWalk}
use Rattle.best_first.specs.declared.state.Layout.{Layout}
use Rattle.plain_search.specs.Answer as plain
use Rattle.search_core.specs.Answer as jump
use Rattle.edit_replay.specs.Edited.{Edit, edited}
use Rattle.edit_replay.specs.Session.{SessionData}
use Rattle.edit_replay.specs.declared.engine.Engine.{Engine}
use Rattle.edit_replay.specs.declared.engine.Engine.TheVariants.{Plain, Jps, Block, Plus}
use Rattle.edit_replay.specs.declared.reply.EditReply.{EditReply}
use Rattle.edit_replay.specs.declared.reply.EditReply.TheVariants as replied
use Rattle.edit_replay.specs.declared.reply.Reply.{Reply}
use Rattle.edit_replay.specs.declared.reply.Reply.TheVariants.{Walk, None, Outside, Blocked}

-- the answer without the states that the search took
abbrev pub answer_of : Reply → Answer
answer_of (Walk points cost taken) = walk points cost
answer_of (None taken) = none
answer_of Outside = outside
answer_of Blocked = blocked

-- a walk in the answer has fewer than 2^24 steps
abbrev pub IsShort : Answer → Type 0
IsShort outside = ⊤
IsShort blocked = ⊤
IsShort none = ⊤
IsShort (walk points cost) = cost.a + cost.b < 2 ^ 24

-- an engine's run on one grid found this walk: the plain engine's run, or that of all engines that jump with
-- the same states
abbrev pub Finds : Engine → GridData → Cell → Cell → List Cell → Cost → List ℕ → Type 0
Finds Plain g s t points cost taken = plain.IsFound g s t points cost taken
Finds (Jps layout) g s t points cost taken = jump.IsFound layout g s t points cost taken
Finds (Block layout) g s t points cost taken = jump.IsFound layout g s t points cost taken
Finds (Plus layout) g s t points cost taken = jump.IsFound layout g s t points cost taken

-- an engine's run on one grid ended without a walk
abbrev pub Exhausts : Engine → GridData → Cell → Cell → List ℕ → Type 0
Exhausts Plain g s t taken = plain.IsExhausted g s t taken
Exhausts (Jps layout) g s t taken = jump.IsExhausted layout g s t taken
Exhausts (Block layout) g s t taken = jump.IsExhausted layout g s t taken
Exhausts (Plus layout) g s t taken = jump.IsExhausted layout g s t taken

-- points, cost and taken states are those of the run of all engines that jump with these states, between free
-- cells of this grid
abbrev pub IsJumpReply : Layout → GridData → Cell → Cell → Reply → Type 0
IsJumpReply layout g s t (Walk points cost taken) = jump.IsFound layout g s t points cost taken
IsJumpReply layout g s t (None taken) = jump.IsExhausted layout g s t taken
IsJumpReply layout g s t Outside = ⊥
IsJumpReply layout g s t Blocked = ⊥

-- points, cost and taken states are those of the engine's run on this grid; where an end is not free on it
-- nothing is searched, and no state is taken
abbrev pub IsRunOn : Engine → GridData → Cell → Cell → Reply → Type 0
IsRunOn engine g s t (Walk points cost taken) = Finds engine g s t points cost taken
IsRunOn engine g s t (None taken) =
    MatchBool (is_free g s && is_free g t) (Exhausts engine g s t taken) (taken ≡ [])
IsRunOn engine g s t Outside = ⊤
IsRunOn engine g s t Blocked = ⊤

-- the reply is that of the run of the session's engine on the grid of the query
abbrev pub IsRunReply : SessionData → Cell → Cell → Reply → Type 0
IsRunReply d s t reply = IsRunOn d.engine (query_grid d.layers s) s t reply

-- points and cost are those of a least walk on this grid, or an end is not free on it or no walk exists
abbrev pub IsRightOn : GridData → Cell → Cell → Reply → Type 0
IsRightOn g s t (Walk points cost taken) =
    ((is_free g s && is_free g t) ≡ true) × StandsForLeast g s t points cost
IsRightOn g s t (None taken) = ((is_free g s && is_free g t) ≡ false) ⊎ NoWalk g s t
IsRightOn g s t Outside = ⊥
IsRightOn g s t Blocked = ⊥

-- the edit of a cell is answered so, and leaves these layers
abbrev pub EditsSo : Layers → Cell → Ground → Layers → EditReply → Type 0
EditsSo ls c to after replied.Outside = (is_on_map ls c ≡ false) × (after ≡ ls)
EditsSo ls c to after replied.Same =
    (is_on_map ls c ≡ true) × (is_ground (ground_at ls c) to ≡ true) × (after ≡ ls)
EditsSo ls c to after replied.Done =
    (is_on_map ls c ≡ true) × (is_ground (ground_at ls c) to ≡ false) × (after ≡ layers_with ls c to)

-- where a map after some edits has the one layers, the map after these and one more has the other
abbrev pub AddsEdit : Layers → Edit → Layers → Type 0
AddsEdit ls edit after =
    (m : Layers) (before : List Edit) → ls ≡ edited m before → after ≡ edited m (before ++ edit ∷ [])
