use Rattle.plus_tables.proofs.rows.across_split.Goals as goal

pub returns-in-NW : goal.returns-in-NW
returns-in-NW c = rw c.in-NW.is c.across_by-in-NW.ensures
