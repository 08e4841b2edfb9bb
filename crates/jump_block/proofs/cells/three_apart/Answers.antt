use Rattle.bit_grid.proofs.Words.{set_flag}
use Rattle.jump_block.proofs.Rings.{three_of}
use Rattle.jump_block.proofs.cells.three_apart.Goals as goal

pub returns-clause-shown : goal.returns-clause-shown
returns-clause-shown g c = λ count positions free shows.
    three_of (free c.args.line) c.args.first c.with_lowest-2.result c.with_lowest.result c.from.result
    c.bit_of-zeroth.result c.bit_of-next.result c.bit_of-last.result
    (c.bit_of-zeroth.ensures.shown count positions free shows)
    (c.bit_of-next.ensures.shown count positions free shows)
    (c.bit_of-last.ensures.shown count positions free shows)
    c.with_lowest-2.ensures.lowest c.with_lowest-2.ensures.others
    c.with_lowest.ensures.lowest c.with_lowest.ensures.others
    (set_flag c.bit_of-last.result c.from.result c.from.ensures)
