-- No map is so wide or high that the number two beyond one of its own would not fit.
use Rattle.std.proofs.Common.{arith}
use Rattle.grid_moves.proofs.Places.{inside_is}
use Rattle.table_repair.proofs.Across.{columns_few, rows_few}
use Rattle.table_repair.proofs.walks.cell_before.Goals as goal

pub overflow_add-v : goal.overflow_add-v
overflow_add-v c =
    let i = (inside_is c.args.grid.now c.args.v c.requires.inside).0 in
    let wide = c.requires.grid.sides.narrow in
    let few = columns_few c.args.d c.columns_back_and_one.ensures in
    omega arith

pub overflow_add-v-2 : goal.overflow_add-v-2
overflow_add-v-2 c =
    let i = (inside_is c.args.grid.now c.args.v c.requires.inside).1 in
    let low = c.requires.grid.sides.low in
    let few = rows_few c.args.d c.rows_back_and_one.ensures in
    omega arith
