use Rattle.pruning.specs.Packed.{word_of}
use Rattle.pruning.proofs.Packing.{first_is}
use Rattle.pruning.proofs.packed.first_of.Goals as goal

pub returns : goal.returns
returns c = λ d ds is. first_is d (word_of ds) c.args.word is
