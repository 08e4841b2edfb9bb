use Rattle.std.proofs.lemmas.Bool.Decides.{nat_tests}
use Rattle.std.proofs.lemmas.Grind.{common_steps}
use Rattle.std.proofs.Common.{arith}
use Rattle.pruning.proofs.Ringing.{allowed_of_ring}
use Rattle.pruning.proofs.rule.allowed_around.Goals as goal

pub returns : goal.returns
returns g c = grind (arith, nat_tests, common_steps, allowed_of_ring)
