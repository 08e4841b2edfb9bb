use Rattle.grid_moves.specs.declared.Cell.{Cell}
use Rattle.plus_tables.specs.Tables.{is_on}
use Rattle.plus_tables.proofs.turns.is_free_past.Goals as goal

pub can_move-requires : goal.can_move-requires
can_move-requires g c =
    let on = c.seen_past-seen.ensures.on (λ (v : Cell). is_on c.args.tables.now v) in
    record { at = on c.requires.at c.requires.before }
