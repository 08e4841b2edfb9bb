use Rattle.std.proofs.Common.{ap, subst}
use Rattle.std.specs.Prelude.{Option, IfSome}
use Rattle.std.specs.Option.{is_some}
use Rattle.jump_block.specs.declared.block.Halt.{Halt}
use Rattle.jump_block.specs.Trail.{Halts, begun}
use Rattle.jump_block.proofs.block.Block.seek_start.Goals as goal

pub returns-in-Some : goal.returns-in-Some
returns-in-Some c = λ t block.
    subst (λ (o : Option Halt). IfSome o (λ h. Halts c.args.rule (begun c.args.rule t) h.passed h.marked))
    c.in-Some.is (c.halt_first.ensures.halts t block)

pub returns-in-None : goal.returns-in-None
returns-in-None c = λ t block.
    c.seek_rest.ensures t block
    (c.halt_first.ensures.clear (ap (λ (o : Option Halt). is_some o) c.in-None.is) t block)
