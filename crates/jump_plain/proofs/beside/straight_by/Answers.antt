use Rattle.std.proofs.lemmas.Bool.Decides.{nat_tests}
use Rattle.std.proofs.lemmas.Grind.{common_steps}
use Rattle.std.proofs.Common.{arith}
use Rattle.pruning.proofs.Moves.{can_move-straight}
use Rattle.jump_plain.proofs.Besides.{beyond_legal, beyond_stuck}
use Rattle.jump_plain.proofs.beside.straight_by.Goals as goal

pub returns-then-open_by : goal.returns-then-open_by
returns-then-open_by g c = grind (arith, nat_tests, common_steps, beyond_legal, can_move-straight)

pub returns-else-open_by : goal.returns-else-open_by
returns-else-open_by g c = grind (arith, nat_tests, common_steps, beyond_stuck, can_move-straight)
