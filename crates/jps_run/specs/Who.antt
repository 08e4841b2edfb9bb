-- Who answers a query, and which reply it has: a function of the grids, of how it is answered and of the
-- ends.
use Rattle.std.specs.Prelude.{◌≡◌, ℕ, [], Option, None}
use Rattle.grid_moves.specs.declared.Cell.{Cell}
use Rattle.grid_moves.specs.Grid.{GridData}
use Rattle.grid_moves.specs.Layers.{Layers, query_grid}
use Rattle.best_first.specs.declared.found.Found.{Found}
use Rattle.edit_replay.specs.Counting.{fewest_of, most_of}
use Rattle.edit_replay.specs.Found.{reply_with}
use Rattle.edit_replay.specs.ReplyOf.{found_with, reply_finding, states_of}
use Rattle.edit_replay.specs.Session.{SessionData}
use Rattle.edit_replay.specs.declared.reply.Reply.{Reply}
use Rattle.goal_boxes.specs.Made.{boxed_found}
use Rattle.first_moves.specs.Follow.{led_walk}
use Rattle.word_list.specs.declared.request.SmallEngine.TheVariants.{Boxes, Moves}
pub use Rattle.jps_run.specs.Replies.{By, by_session, by_small}
use Rattle.jps_run.specs.Replies.{Replies}

-- who answers: the grids of a map, and how
pub record Who : Type 0 where
  pub layers : Layers
  pub by : By

-- a session answers by its engine
abbrev pub who_is : SessionData → Who
who_is d = record { layers = d.layers; by = by_session d.engine }

-- what is found on a grid: by the engine's run, by the run that goes by the boxes of the grid, or by
-- following its first moves, where nothing is searched and no state is taken
abbrev pub found_by : By → GridData → Cell → Cell → Found
found_by (by_session engine) g s t = found_with (states_of engine) g s t
found_by (by_small Boxes) g s t = boxed_found g s t
found_by (by_small Moves) g s t = record { walk = led_walk g s t; taken = [] }

-- the replies of who answers so
abbrev pub replies_by : By → Replies
replies_by by ls s t = reply_finding ls s t (found_by by (query_grid ls s) s t)

-- the reply to a query from s to t
abbrev pub reply_to : Who → Cell → Cell → Reply
reply_to who s t = replies_by who.by who.layers s t

-- the reply is that of what is found on this grid
pub record IsFoundReply (by : By) (g : GridData) (s t : Cell) (reply : Reply) : Type 0 where
  pub is : reply ≡ reply_with (found_by by g s t).walk (found_by by g s t).taken

-- the fewest steps that are counted for a state that is taken away from the goal; boxes and first moves
-- promise none
abbrev pub fewest_by : By → ℕ
fewest_by (by_session engine) = fewest_of engine
fewest_by (by_small engine) = 0

-- the most steps that are counted for a state that is taken, where this is known; of boxes and first moves it
-- is not
abbrev pub most_by : By → Option ℕ
most_by (by_session engine) = most_of engine
most_by (by_small engine) = None
