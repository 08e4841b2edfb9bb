-- What `prove` prints.
use Rattle.std.specs.Prelude.{Option, Some, None}
use Rattle.grid_moves.specs.declared.Cell.{Cell}
use Rattle.grid_moves.specs.Layers.{Layers}
use Rattle.path_points.specs.declared.points.Walk as found
use Rattle.edit_replay.specs.declared.reply.Reply.{Reply}
use Rattle.edit_replay.specs.declared.reply.Reply.TheVariants as reply
use Rattle.grid_answers.specs.Certificates.{proof_by, proof_status}
use Rattle.jps_run.specs.Parts.{Output, printed}
use Rattle.jps_run.specs.Replies.{Replies}

-- the walk of a reply, if there is one
abbrev pub walk_of : Reply → Option found.Walk
walk_of (reply.Walk points cost taken) = Some (record { points = points; cost = cost })
walk_of other = None

-- what is printed of the walks from s to t: the certificate of the walk that is replied, or of none, or why
-- there is no certificate; and the status
abbrev pub proving : Replies → Layers → Cell → Cell → Output
proving replies ls s t = printed (proof_by ls s t (walk_of (replies ls s t))) (proof_status ls s t)
