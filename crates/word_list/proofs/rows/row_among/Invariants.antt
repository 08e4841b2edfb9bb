use Rattle.std.proofs.Common.{◌≡◌, map, drop}
use Rattle.word_list.specs.Request.{row_in, stored_row}
use Rattle.word_list.proofs.rows.row_among.Given as goal

-- the first row of the name is among those that are left
abbrev pub invariant-loop-known : goal.invariant-loop-known
invariant-loop-known l =
    row_in (map stored_row (drop l.known-index l.rows)) l.name ≡ row_in (map stored_row l.rows) l.name
