use Rattle.std.proofs.Common.{◌+◌, arith}
use Rattle.grid_moves.specs.Grid.{GridData}
use Rattle.plus_tables.proofs.Growing.{row_read}
use Rattle.plus_tables.proofs.flags.read_row.Goals as goal

pub returns : goal.returns
returns g c =
    let grid : GridData = g.T.Terrain.grid c.args.t.now in
    row_read grid c.args.y (c.width.result + 1) c.args.row.now c.read_row.new.row
    (omega (arith, c.width.ensures.is)) c.requires.long c.read_row.ensures.wide c.requires.first
    c.requires.last c.read_row.ensures.flags
