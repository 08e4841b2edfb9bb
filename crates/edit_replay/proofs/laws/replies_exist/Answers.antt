use Rattle.edit_replay.proofs.Replying.{is_reply}
use Rattle.edit_replay.proofs.laws.replies_exist.Goals as goal

pub returns : goal.returns
returns c = is_reply
