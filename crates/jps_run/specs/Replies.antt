-- What is replied to queries, and that it is right: nothing is said here of how a reply is come to.
use Rattle.grid_moves.specs.declared.Cell.{Cell}
use Rattle.grid_moves.specs.Layers.{Layers}
use Rattle.grid_moves.specs.Reply.{IsRight}
use Rattle.edit_replay.specs.Replies.{answer_of}
use Rattle.edit_replay.specs.declared.engine.Engine.{Engine}
use Rattle.word_list.specs.declared.request.SmallEngine.{SmallEngine}
pub use Rattle.reply_lines.specs.Replies.{Replies}

-- how a query is answered: by a session's engine, or by one for small maps
pub data By : Type 0 where
  by_session : Engine → By
  by_small : SmallEngine → By

-- each of these replies is right, however queries are answered
abbrev pub AreRight : (By → Replies) → Type 0
AreRight replies = (by : By) (ls : Layers) (s t : Cell) → IsRight ls s t (answer_of (replies by ls s t))
