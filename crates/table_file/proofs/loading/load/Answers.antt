use Rattle.std.proofs.Common.{arith}
use Rattle.std.proofs.lemmas.Bool.Decides.{nat_tests}
use Rattle.table_file.proofs.Comparing.{found_by}
use Rattle.table_file.proofs.Differing.{differs_by}
use Rattle.table_file.proofs.loading.load.Goals as goal

pub returns-clause-found : goal.returns-clause-found
returns-clause-found c = grind (arith, nat_tests, found_by)

pub returns-clause-first : goal.returns-clause-first
returns-clause-first c = grind (arith, nat_tests, differs_by)
