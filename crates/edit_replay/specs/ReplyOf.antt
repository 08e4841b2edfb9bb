-- The reply to a query as a function of who answers, the layers and the ends.
use Rattle.std.specs.Prelude.{◌≡◌, ◌&&◌, Bool, true, false, refl, [], Option}
use Rattle.std.specs.Prelude as option
use Rattle.grid_moves.specs.declared.Cell.{Cell}
use Rattle.grid_moves.specs.declared.Ground.TheVariants as ground
use Rattle.grid_moves.specs.Grid.{GridData}
use Rattle.grid_moves.specs.Layers.{AreLayers, Layers, in_one_layer, is_on_map, layers_with, query_grid}
use Rattle.grid_moves.specs.Layers.{shore}
use Rattle.grid_moves.specs.Reply.{IsRight, are_free_ends}
use Rattle.best_first.specs.declared.found.Found.{Found}
use Rattle.best_first.specs.declared.state.Layout.{Layout}
use Rattle.plain_search.specs.Answer.{plain_found}
use Rattle.search_core.specs.Answer.{jump_found}
use Rattle.edit_replay.specs.Found.{reply_with}
use Rattle.edit_replay.specs.Replies.{answer_of, IsRunReply}
use Rattle.edit_replay.specs.Session.{SessionData}
use Rattle.edit_replay.specs.declared.engine.Engine.{Engine}
use Rattle.edit_replay.specs.declared.engine.Engine.TheVariants.{Plain, Jps, Block, Plus}
use Rattle.edit_replay.specs.declared.reply.Reply.{Reply}
use Rattle.edit_replay.specs.declared.reply.Reply.TheVariants.{None, Outside, Blocked}

-- what the run finds of all engines that jump with these states, or that of the plain engine
abbrev pub found_with : Option Layout → GridData → Cell → Cell → Found
found_with option.None g s t = plain_found g s t
found_with (option.Some layout) g s t = jump_found layout g s t

-- the reply by whether both ends lie on the map, whether both are free, whether they lie in one layer, and
-- what is found there
abbrev pub reply_of_ends : Bool → Bool → Bool → Found → Reply
reply_of_ends false free one f = Outside
reply_of_ends true false one f = Blocked
reply_of_ends true true false f = None []
reply_of_ends true true true f = reply_with f.walk f.taken

-- the reply to a query from s to t, where this is found on its grid
unfoldable pub reply_finding : Layers → Cell → Cell → Found → Reply
reply_finding ls s t f =
    reply_of_ends (is_on_map ls s && is_on_map ls t) (are_free_ends ls s t) (in_one_layer ls s t) f

-- the reply of all engines that jump with these states, or that of the plain engine
abbrev pub reply_by : Option Layout → Layers → Cell → Cell → Reply
reply_by states ls s t = reply_finding ls s t (found_with states (query_grid ls s) s t)

-- the states that an engine's searches have, where it jumps
abbrev pub states_of : Engine → Option Layout
states_of Plain = option.None
states_of (Jps layout) = option.Some layout
states_of (Block layout) = option.Some layout
states_of (Plus layout) = option.Some layout

-- the reply of an engine
abbrev pub reply_of : Engine → Layers → Cell → Cell → Reply
reply_of engine ls s t = reply_by (states_of engine) ls s t

-- the reply is right, and the run of the session's engine
pub record IsReplyOf (d : SessionData) (s t : Cell) (reply : Reply) : Type 0 where
  pub right : IsRight d.layers s t (answer_of reply)
  pub run : IsRunReply d s t reply

-- the reply by `reply_of` is such a reply, whatever the session stands for
abbrev pub RepliesExist : Type 0
RepliesExist = (d : SessionData) (s t : Cell) → IsReplyOf d s t (reply_of d.engine d.layers s t)

-- and on the layers of one map no other reply is one
abbrev pub NoneElseReplies : Type 0
NoneElseReplies = (d : SessionData) (s t : Cell) (reply : Reply) → AreLayers d.layers → IsReplyOf d s t reply
    → reply ≡ reply_of d.engine d.layers s t

-- worked rows on the map `.WW/.WW`: outside it, onto a block, and from land into the water
pub off_the_shore : reply_of Plain shore (record { x = 3; y = 0 }) (record { x = 1; y = 0 }) ≡ Outside
unfolding reply_finding
off_the_shore = refl

pub onto_a_block : reply_of Plain (layers_with shore (record { x = 2; y = 0 }) ground.Blocked)
    (record { x = 2; y = 0 }) (record { x = 0; y = 0 }) ≡ Blocked
unfolding reply_finding
onto_a_block = refl

pub into_the_water : reply_of Plain shore (record { x = 0; y = 0 }) (record { x = 1; y = 0 }) ≡ None []
unfolding reply_finding
into_the_water = refl
