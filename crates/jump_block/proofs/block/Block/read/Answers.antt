use Rattle.jump_block.proofs.Reading.{block_read}
use Rattle.jump_block.proofs.block.Block.read.Goals as goal

pub returns-clause-shown : goal.returns-clause-shown
returns-clause-shown g c = λ count positions free shows way from n a b.
    block_read free way c.args.line from c.args.index n b _ _ _
    (c.three_lanes-lanes.ensures.middle count positions free shows)
    (c.three_lanes-lanes.ensures.before count positions free shows)
    (c.three_lanes-lanes.ensures.after count positions free shows)
