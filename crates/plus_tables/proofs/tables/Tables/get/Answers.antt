use Rattle.std.proofs.Common.{rules}
use Rattle.plus_tables.proofs.Placing.{place_in}
use Rattle.plus_tables.proofs.tables.Tables.get.Goals as goal

pub index-requires : goal.index-requires
index-requires c = search (rules, place_in)
