-- How a call is answered, as its settings ask.
use Rattle.grid_moves.specs.declared.Corner.{Corner}
use Rattle.best_first.specs.declared.state.Layout.{Layout}
use Rattle.best_first.specs.declared.state.Layout.TheVariants.{ByArrival, ByCell}
use Rattle.edit_replay.specs.declared.engine.Engine.{Engine}
use Rattle.edit_replay.specs.declared.engine.Engine.TheVariants as engine
use Rattle.word_list.specs.declared.request.Pick.{Pick}
use Rattle.word_list.specs.declared.request.Pick.TheVariants.{Session, Small}
use Rattle.word_list.specs.declared.request.SessionEngine.{SessionEngine}
use Rattle.word_list.specs.declared.request.SessionEngine.TheVariants.{Plain, Jps, Block, Plus}
use Rattle.word_list.specs.declared.request.Settings.{Settings}
use Rattle.word_list.specs.declared.request.Show.{Show}
use Rattle.word_list.specs.declared.request.States.{States}
use Rattle.word_list.specs.declared.request.States.TheVariants as states
use Rattle.word_list.specs.Settings.{session_engine}
use Rattle.jps_run.specs.Replies.{By, Replies, by_session, by_small}

-- the states of a cell, by the word for how many there are
abbrev pub layout_for : States → Layout
layout_for states.Arrival = ByArrival
layout_for states.Cell = ByCell

-- the engine of a session by its word; how many states a cell has is asked of one that jumps
abbrev pub engine_for : States → SessionEngine → Engine
engine_for asked Plain = engine.Plain
engine_for asked Jps = engine.Jps (layout_for asked)
engine_for asked Block = engine.Block (layout_for asked)
engine_for asked Plus = engine.Plus (layout_for asked)

-- how the picked engine answers
abbrev pub by_of : States → Pick → By
by_of asked (Session engine) = by_session (engine_for asked engine)
by_of asked (Small engine) = by_small engine

-- how the engine answers that the settings pick
abbrev pub picked_by : Settings → By
picked_by set = by_of set.states set.pick

-- how a session answers, as the settings ask
abbrev pub session_by : Settings → By
session_by set = by_session (engine_for set.states (session_engine set.pick))

-- how a call is answered: what is replied to its queries by the picked engine, by a session, and by the plain
-- engine, of whose walks `prove` writes; what is shown of a reply; and the corner rule
pub record Manner : Type 0 where
  pub picked : Replies
  pub session : Replies
  pub plain : Replies
  pub show : Show
  pub rule : Corner

abbrev pub manner_of : (By → Replies) → Settings → Manner
manner_of replies set = record {
  picked = replies (picked_by set);
  session = replies (session_by set);
  plain = replies (by_session engine.Plain);
  show = set.show;
  rule = set.rule;
}
