use Rattle.std.proofs.Common.{sym}
use Rattle.jump_block.proofs.Directions.{stops_there}
use Rattle.jump_block.proofs.straight.Bits.mark.Goals as goal

pub returns-clause-stops : goal.returns-clause-stops
returns-clause-stops g c = λ grid are free goal off.
    stops_there _ grid c.args.at are free c.args.axis _ _ c.start-start.ensures.is _ (sym c.requires.rule)
    goal 0 _ _ _ (sym off) c.first_mark.ensures.stops
