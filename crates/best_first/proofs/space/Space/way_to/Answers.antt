use Rattle.std.proofs.lemmas.Bool.Decides.{nat_tests}
use Rattle.std.proofs.lemmas.Grind.{common_steps}
use Rattle.std.proofs.Common.{arith}
use Rattle.std.proofs.lemmas.Option.{slice_get_within}
use Rattle.best_first.proofs.Tracing.{has_node, on_the_way, step_back}
use Rattle.best_first.proofs.space.Space.way_to.Goals as goal

pub back-init : goal.back-init
back-init c = grind (arith, nat_tests, common_steps, on_the_way)

pub node-node-requires : goal.node-node-requires
node-node-requires c = grind (arith, nat_tests, common_steps, has_node, slice_get_within)

pub back-preserved : goal.back-preserved
back-preserved c = grind (arith, nat_tests, common_steps, step_back)
