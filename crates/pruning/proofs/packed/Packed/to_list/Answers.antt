use Rattle.std.proofs.lemmas.Bool.Decides.{nat_tests}
use Rattle.std.proofs.lemmas.Grind.{common_steps}
use Rattle.std.proofs.Common.{arith}
use Rattle.pruning.proofs.Packing.{few_dirs}
use Rattle.pruning.proofs.packed.Packed.to_list.Goals as goal

pub left-init : goal.left-init
left-init c = grind (arith, few_dirs)

pub push-requires : goal.push-requires
push-requires c = grind (arith, nat_tests, common_steps)
