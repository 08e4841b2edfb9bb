use Rattle.std.proofs.Common.{subst}
use Rattle.jump_block.specs.declared.straight.Start.{Start}
use Rattle.jump_block.specs.Near.{AreNearStart}
use Rattle.jump_block.proofs.straight.Bits.near.Goals as goal

pub returns-clause-near : goal.returns-clause-near
returns-clause-near g c = subst (λ (s : Start). AreNearStart s.lines.now s.line s.place c.words_near.result)
    c.start-start.ensures.is c.words_near.ensures.near
