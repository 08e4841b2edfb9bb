use Rattle.std.proofs.Common.{arith}
use Rattle.std.proofs.lemmas.Bool.Decides.{nat_tests}
use Rattle.plus_tables.proofs.Short.{table_entry-short, same_value, short_value}
use Rattle.plus_tables.proofs.Refreshing.{next_short, entry_marked, entry_further}
use Rattle.plus_tables.proofs.tables.Tables.entry_by_next.Goals as goal

pub returns-in-Some : goal.returns-in-Some
returns-in-Some g c = grind (arith, nat_tests, entry_marked)

pub returns-in-Some-2 : goal.returns-in-Some-2
returns-in-Some-2 g c =
    grind (arith, nat_tests, next_short, entry_further, same_value, table_entry-short, short_value)

pub returns-in-None : goal.returns-in-None
returns-in-None g c = grind (arith, nat_tests)
