use Rattle.std.proofs.Common.{arith}
use Rattle.grid_moves.specs.Grid.{GridData}
use Rattle.plus_tables.proofs.Rowing.{forced_row, along_row}
use Rattle.plus_tables.proofs.lines.make_one_along.Goals as goal

pub returns : goal.returns
returns g c = λ h y around.
    let grid : GridData = g.T.Terrain.grid c.args.t.now in
    let rows = c.args.rows in
    along_row grid c.requires.whole h y rows.ahead.now rows.here.now rows.behind.now c.force.new.forced
    c.along.new.out around c.args.d c.requires.along
    (forced_row grid c.requires.whole h y rows.ahead.now rows.here.now rows.behind.now around c.args.d
    c.corner.result c.force.new.forced c.corner.ensures (omega (arith, c.requires.forced)) c.force.ensures)
    (omega (arith, c.requires.out)) c.along.ensures
