-- Replies to queries, however they are come to.
use Rattle.std.specs.Prelude.{ℕ, Bool, true, false, List}
use Rattle.grid_moves.specs.declared.Cell.{Cell}
use Rattle.grid_moves.specs.Layers.{Layers}
use Rattle.edit_replay.specs.declared.reply.Reply.{Reply}
use Rattle.edit_replay.specs.declared.reply.Reply.TheVariants as reply
use Rattle.word_list.specs.declared.request.Show.{Show}
use Rattle.reply_lines.specs.Lines.{reply_line}

-- a reply to each query from one cell to another on each pair of grids
abbrev pub Replies : Type 0
Replies = Layers → Cell → Cell → Reply

-- the line of the reply to a query
abbrev pub query_line : Replies → Show → Layers → Cell → Cell → List ℕ
query_line replies show ls s t = reply_line ls.land.width show (replies ls s t)

-- a reply is a walk
abbrev pub is_walk : Reply → Bool
is_walk reply.Outside = false
is_walk reply.Blocked = false
is_walk (reply.None taken) = false
is_walk (reply.Walk points cost taken) = true
