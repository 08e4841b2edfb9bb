use Rattle.plus_tables.proofs.Following.{entries_follow}
use Rattle.table_repair.proofs.Alike.{changes_spread_back}
use Rattle.table_repair.proofs.laws.changes_spread_back.Goals as goal

pub returns : goal.returns
returns c = changes_spread_back entries_follow
