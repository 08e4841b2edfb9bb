-- One direction after the other.
use Rattle.std.proofs.Common.{arith, add-one, get_or}
use Rattle.grid_moves.specs.declared.Dir.{Dir}
use Rattle.grid_moves.specs.declared.Dir.TheVariants.{N}
use Rattle.table_repair.specs.Mending.{is_in_reach}
use Rattle.table_repair.proofs.Passes.{passed_more, listed_at, listed_take, listed_all, diagonal_ready}
use Rattle.table_repair.proofs.Passes.{counted_pass}
use Rattle.table_repair.proofs.Totals.{later_on}
use Rattle.table_repair.proofs.repair.sweep_diagonals.Goals as goal

pub sweep_diagonal-changed-requires-clause-ready : goal.sweep_diagonal-changed-requires-clause-ready
sweep_diagonal-changed-requires-clause-ready g c =
    let d : Dir = get_or c.args.dirs.now c.loop-d.d-index N in
    diagonal_ready c.loop-d.invariant.passed.mends c.requires.beside
    (c.requires.diagonal d (listed_at c.args.dirs.now c.loop-d.d-index N c.loop-d-test.true))

pub sweep_diagonal-changed-requires-clause-diagonal : goal.sweep_diagonal-changed-requires-clause-diagonal
sweep_diagonal-changed-requires-clause-diagonal g c =
    c.requires.diagonal (get_or c.args.dirs.now c.loop-d.d-index N)
    (listed_at c.args.dirs.now c.loop-d.d-index N c.loop-d-test.true)

pub sweep_diagonal-changed-requires-clause-waits : goal.sweep_diagonal-changed-requires-clause-waits
sweep_diagonal-changed-requires-clause-waits g c =
    let d : Dir = get_or c.args.dirs.now c.loop-d.d-index N in
    c.loop-d.invariant.passed.follows d
    (c.requires.diagonal d (listed_at c.args.dirs.now c.loop-d.d-index N c.loop-d-test.true))

pub loop-d-preserved : goal.loop-d-preserved
loop-d-preserved g c =
    let d : Dir = get_or c.args.dirs.now c.loop-d.d-index N in
    let i = c.loop-d.invariant in
    let diagonal = c.requires.diagonal d (listed_at c.args.dirs.now c.loop-d.d-index N c.loop-d-test.true) in
    let few = i.few in
    let one = c.sweep_diagonal-changed.ensures.few in
    record {
      passed = rw add-one (passed_more
          (is_in_reach c.args.grid.now c.args.rows c.args.columns c.args.by) i.passed diagonal
          c.sweep_diagonal-changed.ensures.mends
          c.sweep_diagonal-changed.ensures.right
          (λ e k. listed_take c.args.dirs.now c.loop-d.d-index N e c.loop-d-test.true k));
      few = omega arith;
      counted = counted_pass c.args.steps.now c.loop-d.steps _ c.loop-d.changed
          c.sweep_diagonal-changed.result c.loop-d.d-index _ i.counted c.sweep_diagonal-changed.ensures.steps;
      none = c.sweep_diagonal-changed.ensures.none;
      later = later_on i.later c.sweep_diagonal-changed.ensures.later;
    }

pub returns-clause-right : goal.returns-clause-right
returns-clause-right g c = λ d k.
    c.loop-d.invariant.passed.right d (listed_all c.args.dirs.now c.loop-d.d-index d c.loop-d-test.false k)
