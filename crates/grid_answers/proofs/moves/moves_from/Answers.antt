use Rattle.grid_answers.proofs.Cells.{few-cells, if_text, runs-told}
use Rattle.grid_answers.proofs.moves.moves_from.Goals as goal

pub of-requires-clause-few : goal.of-requires-clause-few
of-requires-clause-few c =
    few-cells c.args.layers.now c.args.from c.query_grid-grid.result.now c.query_grid-grid.ensures
    c.requires.land c.requires.water

pub returns : goal.returns
returns c =
    if_text c.lines_of.result c.lines_of.ensures (runs-told c.args.layers.now c.args.from
    c.query_grid-grid.result.now c.in_ok-row.row c.width-2.result c.query_grid-grid.ensures c.requires.free
    c.requires.told c.in_ok-row.ensures.row c.width-2.ensures.is)
