use Rattle.std.proofs.Common.{arith, refl}
use Rattle.potential_check.proofs.Reaching.{reach_begin, reach_next, reach_past, reach_row}
use Rattle.potential_check.proofs.rising.Hills.first_rows.Goals as goal

pub loop-x-init : goal.loop-x-init
loop-x-init c = reach_begin c.args.self.now c.requires

pub loop-x-preserved : goal.loop-x-preserved
loop-x-preserved c =
    (reach_next c.args.self.now c.requires 0 c.loop-x.x c.take.result.0 c.loop-x.below c.take.result.1
    c.loop-x.invariant (record {
      is = c.take.ensures.height;
      rest = c.take.ensures.rest;
      floor_is = c.take.ensures.floor;
      low = c.take.ensures.low;
    })).1

pub returns : goal.returns
returns c = record {
  above = λ up b. reach_past c.args.self.now c.requires up c.ended.result
      (let e = b.none refl in omega arith) c.ended.ensures.none c.ended.ensures.floor c.ended.ensures.low;
  here = reach_begin c.args.self.now c.requires;
  below = reach_row c.args.self.now c.requires 0 c.loop-x.x c.loop-x.below (omega arith) c.loop-x.invariant;
}
