use Rattle.std.proofs.lemmas.Bool.Decides.{nat_tests}
use Rattle.std.proofs.Common.{arith}
use Rattle.edit_replay.proofs.laws.terrain_has_grounds.Goals as goal

pub returns : goal.returns
returns c = λ byte. (grind (arith, nat_tests), grind (arith, nat_tests))
