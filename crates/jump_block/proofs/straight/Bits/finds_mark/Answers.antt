use Rattle.std.proofs.Common.{refl, subst, sym}
use Rattle.jump_block.specs.declared.straight.Start.{Start}
use Rattle.jump_block.specs.Near.{AreNearStart}
use Rattle.jump_block.proofs.Directions.{finds_aside}
use Rattle.jump_block.proofs.straight.Bits.finds_mark.Goals as goal

pub finds_mark-requires-clause-near : goal.finds_mark-requires-clause-near
finds_mark-requires-clause-near g c =
    subst (λ (s : Start). AreNearStart s.lines.now s.line s.place c.args.near) (sym c.start-start.ensures.is)
    c.requires.near

pub returns-clause-finds : goal.returns-clause-finds
returns-clause-finds g c = λ grid are free.
    finds_aside _ grid c.args.at are free c.args.axis c.args.way _ c.start-start.ensures.is _ refl _ _ _
    c.finds_mark.ensures.finds
