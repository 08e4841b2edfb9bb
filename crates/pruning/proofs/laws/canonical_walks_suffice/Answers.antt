use Rattle.pruning.proofs.Law.{canonical_from}
use Rattle.pruning.proofs.Replacing.{turns_are_replaced}
use Rattle.pruning.proofs.laws.canonical_walks_suffice.Goals as goal

pub returns : goal.returns
returns c = canonical_from turns_are_replaced
