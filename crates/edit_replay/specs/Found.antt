-- Replies by what a search found, and where nothing is searched.
use Rattle.std.specs.Prelude.{ℕ, List, [], Option, Some}
use Rattle.std.specs.Prelude as option
use Rattle.grid_moves.specs.declared.ends.Unsearched.{Unsearched}
use Rattle.grid_moves.specs.declared.ends.Unsearched.TheVariants as why
use Rattle.path_points.specs.declared.points.Walk as points
use Rattle.edit_replay.specs.declared.reply.Reply.{Reply}
use Rattle.edit_replay.specs.declared.reply.Reply.TheVariants.{Walk, None, Outside, Blocked}

-- the reply of what was found between free cells, and of the states that were taken
abbrev pub reply_with : Option points.Walk → List ℕ → Reply
reply_with (Some walk) taken = Walk walk.points walk.cost taken
reply_with option.None taken = None taken

-- the reply where nothing is searched, for this reason
abbrev pub reply_without : Unsearched → Reply
reply_without why.Outside = Outside
reply_without why.Blocked = Blocked
reply_without (why.Apart ends) = None []
