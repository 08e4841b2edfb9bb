use Rattle.grid_moves.specs.Grid.{ground_of, is_ground}
use Rattle.std.proofs.Common.{arith, get_or}
use Rattle.grid_moves.proofs.Padding.{flag_more}
use Rattle.grid_moves.proofs.grid.fill_row.Goals as goal

pub loop-x-preserved : goal.loop-x-preserved
loop-x-preserved c = flag_more c.loop-x.row c.loop-x.x c.is_of.result
    (λ k. is_ground c.args.kind (ground_of (get_or c.args.bytes.now k 0))) (omega arith) c.loop-x.invariant
    c.is_of.ensures
