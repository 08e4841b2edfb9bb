use Rattle.std.proofs.lemmas.Bool.Decides.{nat_tests}
use Rattle.std.proofs.lemmas.Grind.{common_steps}
use Rattle.std.proofs.Common.{arith}
use Rattle.jump_plain.proofs.Straight.{straight_stop}
use Rattle.jump_plain.proofs.jump.straight_stop.Goals as goal

pub returns : goal.returns
returns g c = grind (arith, nat_tests, common_steps, straight_stop)
