use Rattle.std.proofs.lemmas.Bool.Decides.{nat_tests}
use Rattle.std.proofs.lemmas.Grind.{common_steps}
use Rattle.std.proofs.Common.{arith}
use Rattle.jump_plain.proofs.Straight.{first_meets}
use Rattle.jump_plain.proofs.source.PlainJumpsJumpSource.stop.Goals as goal

pub returns-clause-first : goal.returns-clause-first
returns-clause-first g c = λ grid stands free free_goal. grind (arith, nat_tests, common_steps, first_meets)
