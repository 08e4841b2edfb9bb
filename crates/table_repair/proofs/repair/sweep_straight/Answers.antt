-- One direction after the other.
use Rattle.std.proofs.Common.{arith, add-one, get_or}
use Rattle.grid_moves.specs.declared.Dir.{Dir}
use Rattle.grid_moves.specs.declared.Dir.TheVariants.{N}
use Rattle.table_repair.specs.Mending.{is_in}
use Rattle.table_repair.proofs.Passes.{passed_more, listed_at, listed_take, listed_all, straight_ready}
use Rattle.table_repair.proofs.Passes.{nothing_later, swept_right, counted_pass}
use Rattle.table_repair.proofs.Totals.{later_on}
use Rattle.table_repair.proofs.repair.sweep_straight.Goals as goal

pub sweep-changed-requires-clause-ready : goal.sweep-changed-requires-clause-ready
sweep-changed-requires-clause-ready g c =
    straight_ready c.loop-d.invariant.passed.mends.sound
    (c.requires.straight (get_or c.args.dirs.now c.loop-d.d-index N)
    (listed_at c.args.dirs.now c.loop-d.d-index N c.loop-d-test.true))

pub sweep-changed-requires-clause-waits : goal.sweep-changed-requires-clause-waits
sweep-changed-requires-clause-waits g c =
    let d : Dir = get_or c.args.dirs.now c.loop-d.d-index N in
    nothing_later (c.loop-d.invariant.passed.follows d
    (c.requires.straight d (listed_at c.args.dirs.now c.loop-d.d-index N c.loop-d-test.true)))

pub loop-d-preserved : goal.loop-d-preserved
loop-d-preserved g c =
    let d : Dir = get_or c.args.dirs.now c.loop-d.d-index N in
    let i = c.loop-d.invariant in
    let straight = c.requires.straight d (listed_at c.args.dirs.now c.loop-d.d-index N c.loop-d-test.true) in
    let few = i.few in
    let one = c.sweep-changed.ensures.few in
    let block = c.requires.block in
    let low = block.low in
    let high = c.requires.sound.grid.sides.low in
    record {
      passed = rw add-one (passed_more
          (λ e. is_in c.args.rows c.args.columns) i.passed straight c.sweep-changed.ensures.mends
          (swept_right (i.passed.follows d straight) c.sweep-changed.ensures.sweeps)
          (λ e k. listed_take c.args.dirs.now c.loop-d.d-index N e c.loop-d-test.true k));
      few = omega arith;
      counted = counted_pass c.args.steps.now c.loop-d.steps _ c.loop-d.changed c.sweep-changed.result
          c.loop-d.d-index _ i.counted c.sweep-changed.ensures.steps;
      none = c.sweep-changed.ensures.none;
      later = later_on i.later c.sweep-changed.ensures.later;
    }

pub returns-clause-right : goal.returns-clause-right
returns-clause-right g c = λ d k.
    c.loop-d.invariant.passed.right d (listed_all c.args.dirs.now c.loop-d.d-index d c.loop-d-test.false k)
