use Rattle.jump_block.proofs.Blocks.{passed_whole}
use Rattle.jump_block.proofs.block.Block.is_passed.Goals as goal

pub returns : goal.returns
returns c = λ yes t from start block ahead passed.
    let none = c.are_none.ensures yes in
    passed_whole t c.args.way from start c.args.self.now c.args.last block ahead passed
    (c.blocked.ensures none.0) (c.changed.ensures none.1) (c.changed-2.ensures none.2)
