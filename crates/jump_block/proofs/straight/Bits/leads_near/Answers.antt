use Rattle.std.proofs.Common.{ℕ, ◌+◌, ◌%◌, ap, subst}
use Rattle.jump_block.specs.declared.word.Way.{Way}
use Rattle.jump_block.specs.Near.{HasNextBit}
use Rattle.jump_block.specs.declared.straight.Axis.TheVariants.{Row}
use Rattle.jump_block.specs.Source.{by_line}
use Rattle.jump_block.proofs.Directions.{start_on}
use Rattle.jump_block.proofs.Around.{leads_near}
use Rattle.jump_block.proofs.straight.Bits.leads_near.Goals as goal

pub returns-then-has_next_bit-clause-leads : goal.returns-then-has_next_bit-clause-leads
returns-then-has_next_bit-clause-leads g c = λ grid are free.
    leads_near grid c.args.at free c.args.self.now.corner are.rule c.args.near
    (c.requires.near (by_line grid Row) (start_on c.args.self.now grid c.args.at are free Row))
    c.args.d c.requires.diagonal ((c.from.result + 1) % 64) (ap (λ (n : ℕ). (n + 1) % 64) c.from.ensures)
    (subst (λ (w : Way). HasNextBit w ((c.from.result + 1) % 64)) c.way_on.ensures
    (c.has_next_bit.ensures c.if-has_next_bit.true)) _ c.leads_from_bit.ensures
