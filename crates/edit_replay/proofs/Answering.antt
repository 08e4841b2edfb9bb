-- The layers of a session, and what is right on them.
use Rattle.std.proofs.Common.{◌≡◌, ℕ, List, true, refl, sym, subst, inl, inr}
use Rattle.std.specs.Prelude.{IfOk, Ok, Err, Option, Some}
use Rattle.std.specs.Prelude as option
use Rattle.std.specs.declared.result.Result.{Result}
use Rattle.grid_moves.specs.declared.Cell.{Cell}
use Rattle.grid_moves.specs.declared.ends.Unsearched.{Unsearched}
use Rattle.grid_moves.specs.declared.ends.Unsearched.TheVariants as why
use Rattle.grid_moves.specs.Ends.{IsUnsearched}
use Rattle.grid_moves.specs.Grid.{GridData, is_free}
use Rattle.grid_moves.specs.Layers.{Layers, query_grid}
use Rattle.grid_moves.specs.Reply.{IsRight, are_free_ends}
use Rattle.path_points.specs.declared.points.Walk as points
use Rattle.path_points.specs.Least.{IsLeastOrNone}
use Rattle.edit_replay.specs.Found.{reply_with, reply_without}
use Rattle.edit_replay.specs.Replies.{IsRightOn, IsRunOn, IsShort, answer_of}
use Rattle.edit_replay.specs.declared.engine.Engine.{Engine}
use Rattle.edit_replay.specs.declared.reply.Reply.{Reply}
use Rattle.edit_replay.specs.declared.reply.Reply.TheVariants.{Walk, None, Outside, Blocked}

right_on_map : (ls : Layers) (s t : Cell) (reply : Reply) → are_free_ends ls s t ≡ true
    → IsRightOn (query_grid ls s) s t reply → IsRight ls s t (answer_of reply)
right_on_map ls s t (Walk points cost taken) ends right = right
right_on_map ls s t (None taken) ends right = (ends, right)
right_on_map ls s t Outside ends right = absurd right
right_on_map ls s t Blocked ends right = absurd right

result_on_map : {E : Type 0} (ls : Layers) (s t : Cell) (result : Result Reply E)
    → are_free_ends ls s t ≡ true → IfOk result (IsRightOn (query_grid ls s) s t)
    → IfOk result (λ reply. IsRight ls s t (answer_of reply))
result_on_map ls s t (Ok reply) ends right = right_on_map ls s t reply ends right
result_on_map ls s t (Err fault) ends right = tt

-- a reply on the grid that is the query's
pub result_on_grid : {E : Type 0} (ls : Layers) (g : GridData) (s t : Cell) (result : Result Reply E)
    → query_grid ls s ≡ g → are_free_ends ls s t ≡ true → IfOk result (IsRightOn g s t)
    → IfOk result (λ reply. IsRight ls s t (answer_of reply))
result_on_grid ls g s t result is ends right = result_on_map ls s t result ends
    (subst (λ (h : GridData). IfOk result (IsRightOn h s t)) (sym is) right)

-- the reply of what was found between free cells is right where that is
pub found_right : (g : GridData) (s t : Cell) (walk : Option points.Walk) (taken : List ℕ)
    → is_free g s ≡ true → is_free g t ≡ true → IsLeastOrNone g s t walk
    → IsRightOn g s t (reply_with walk taken)
found_right g s t (Some w) taken from to least = (rw (from, to) refl, least)
found_right g s t option.None taken from to none = inr none

-- and the reply where nothing is searched
pub unsearched_right : (ls : Layers) (s t : Cell) (reason : Unsearched) → IsUnsearched ls s t reason
    → IsRight ls s t (answer_of (reply_without reason))
unsearched_right ls s t why.Outside is = is
unsearched_right ls s t why.Blocked is = is
unsearched_right ls s t (why.Apart ends) is = (is.free, inl is.two)

-- that is also what each engine's run comes to
pub unsearched_run : (engine : Engine) (ls : Layers) (s t : Cell) (reason : Unsearched)
    → IsUnsearched ls s t reason → IsRunOn engine (query_grid ls s) s t (reply_without reason)
unsearched_run engine ls s t why.Outside is = tt
unsearched_run engine ls s t why.Blocked is = tt
unsearched_run engine ls s t (why.Apart ends) is = rw is.two refl

-- and it has no walk
pub unsearched_short : (reason : Unsearched) → IsShort (answer_of (reply_without reason))
unsearched_short why.Outside = tt
unsearched_short why.Blocked = tt
unsearched_short (why.Apart ends) = tt
