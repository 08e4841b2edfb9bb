use Rattle.std.proofs.Common.{arith}
use Rattle.best_first.proofs.Parts.{parts_few, parts_fewer}
use Rattle.best_first.proofs.space.Space.reserve.Goals as goal

pub grow-requires : goal.grow-requires
grow-requires c =
    let f = parts_few c.self.invariant.parts in
    let r = parts_fewer c.self.invariant.parts in
    record {
      few = omega arith;
      fewer = omega (arith, c.self.inside.index.records.ok.0);
      has = c.self.invariant.room;
    }
