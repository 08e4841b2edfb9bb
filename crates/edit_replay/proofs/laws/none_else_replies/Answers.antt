use Rattle.edit_replay.proofs.Oneness.{only}
use Rattle.edit_replay.proofs.laws.none_else_replies.Goals as goal

pub returns : goal.returns
returns c = λ d s t reply are is. only d are s t reply is
