use Rattle.edit_replay.proofs.search.jump.Goals as goal

pub search_by_jumps-requires-in-Bits-clause-stands : goal.search_by_jumps-requires-in-Bits-clause-stands
search_by_jumps-requires-in-Bits-clause-stands g c =
    rw c.of-bits.ensures (rw c.in-Bits.is at c.requires.finder)

pub search_by_jumps-requires-in-Tables-clause-stands : goal.search_by_jumps-requires-in-Tables-clause-stands
search_by_jumps-requires-in-Tables-clause-stands g c =
    rw c.of-tables.ensures (rw c.in-Tables.is at c.requires.finder)
