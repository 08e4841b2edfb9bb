use Rattle.std.proofs.lemmas.Bool.Decides.{nat_tests}
use Rattle.std.proofs.lemmas.Grind.{common_steps}
use Rattle.std.proofs.Common.{arith}
use Rattle.jump_block.proofs.marks.is_mark.Goals as goal

pub returns-in-Some : goal.returns-in-Some
returns-in-Some c = λ rule t finds. grind (arith, nat_tests, common_steps)

pub returns-in-None : goal.returns-in-None
returns-in-None c = λ rule t finds. grind (arith, nat_tests, common_steps)
