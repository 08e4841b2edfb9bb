use Rattle.std.proofs.lemmas.Bool.Decides.{nat_tests}
use Rattle.std.proofs.Common.{arith, to_z, of_z}
use Rattle.plus_tables.proofs.Placing.{entry_at-with_other}
use Rattle.plus_tables.proofs.tables.Tables.refresh.Goals as goal

pub returns-clause-others : goal.returns-clause-others
returns-clause-others g c = grind (arith, nat_tests, to_z, of_z, entry_at-with_other)
