use Rattle.std.proofs.lemmas.Bool.Decides.{nat_tests}
use Rattle.std.proofs.Common.{arith}
use Rattle.scen_text.proofs.Lines.{version_right, version_wrong}
use Rattle.scen_text.proofs.reading.read.Goals as goal

pub returns-then-not-is_version : goal.returns-then-not-is_version
returns-then-not-is_version c = grind (arith, nat_tests, version_wrong)

pub loop-line-init : goal.loop-line-init
loop-line-init c = grind (arith, version_right)
