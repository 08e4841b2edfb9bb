use Rattle.std.proofs.lemmas.Grind.{common_steps}
use Rattle.std.proofs.Common.{arith}
use Rattle.std.proofs.lemmas.Bool.Decides.{nat_tests}
use Rattle.jump_block.proofs.Bits.{lowest_set, highest_set}
use Rattle.jump_block.proofs.word.first.Goals as goal

pub returns-in-Forward-clause-set : goal.returns-in-Forward-clause-set
returns-in-Forward-clause-set c = (lowest_set c.args.word c.requires c.ranges.word.fits).1

pub returns-in-Forward-clause-first : goal.returns-in-Forward-clause-first
returns-in-Forward-clause-first c = λ j h past. grind (arith, nat_tests, common_steps, lowest_set)

pub returns-in-Back-clause-set : goal.returns-in-Back-clause-set
returns-in-Back-clause-set c = (highest_set c.args.word c.requires c.ranges.word.fits).1

pub returns-in-Back-clause-first : goal.returns-in-Back-clause-first
returns-in-Back-clause-first c = λ j h past. grind (arith, nat_tests, common_steps, highest_set)
