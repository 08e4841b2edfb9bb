use Rattle.std.proofs.lemmas.Bool.Decides.{nat_tests}
use Rattle.std.proofs.lemmas.Grind.{common_steps}
use Rattle.std.proofs.Common.{arith}
use Rattle.jump_plain.proofs.Straight.{mark_stops, no_stop}
use Rattle.jump_plain.proofs.jump.finds_stop.Goals as goal

pub returns-then-scan_with : goal.returns-then-scan_with
returns-then-scan_with g c = grind (arith, nat_tests, common_steps, mark_stops)

pub returns : goal.returns
returns g c = grind (arith, nat_tests, common_steps, no_stop)
