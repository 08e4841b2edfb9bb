use Rattle.std.proofs.lemmas.Bool.Decides.{nat_tests}
use Rattle.std.proofs.lemmas.Grind.{common_steps}
use Rattle.std.proofs.Common.{arith}
use Rattle.jump_block.proofs.Rings.{leads_by}
use Rattle.jump_block.proofs.straight.Bits.leads.Goals as goal

pub returns-clause-leads : goal.returns-clause-leads
returns-clause-leads g c = λ grid are free. grind (arith, nat_tests, common_steps, leads_by)
