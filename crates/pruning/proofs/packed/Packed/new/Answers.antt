use Rattle.std.proofs.Common.{[], refl, arith}
use Rattle.pruning.proofs.Packing.{shown, whole}
use Rattle.pruning.proofs.packed.Packed.new.Goals as goal

pub invariant_of-result : goal.invariant_of-result
invariant_of-result c = whole 0 [] refl (omega arith)

pub returns : goal.returns
returns c = shown 0 [] refl (omega arith)
