use Rattle.jump_block.proofs.Around.{set_lowered-next, set_raised-next}
use Rattle.jump_block.proofs.near.drawn_back.Goals as goal

pub returns-in-Forward : goal.returns-in-Forward
returns-in-Forward c = rw c.in-Forward.is (set_lowered-next c.args.word)

pub returns-in-Back : goal.returns-in-Back
returns-in-Back c = rw c.in-Back.is (set_raised-next c.args.word)
