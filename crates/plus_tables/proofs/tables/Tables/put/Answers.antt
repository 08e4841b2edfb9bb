use Rattle.std.proofs.Common.{rules}
use Rattle.plus_tables.proofs.Placing.{place_in}
use Rattle.plus_tables.proofs.tables.Tables.put.Goals as goal

pub index_mut-requires : goal.index_mut-requires
index_mut-requires c = search (rules, place_in)
