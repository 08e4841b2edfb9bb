use Rattle.potential_check.proofs.Judging.{least_parts}
use Rattle.potential_check.proofs.checking.check_least.Goals as goal

pub bad_point-requires : goal.bad_point-requires
bad_point-requires c =
    (least_parts c.args.g.now.width c.args.g.now.height c.args.cost c.args.points.now c.args.values.now
    c.requires.claim).few

pub first_raise-requires : goal.first_raise-requires
first_raise-requires c =
    let parts = least_parts c.args.g.now.width c.args.g.now.height c.args.cost c.args.points.now
    c.args.values.now c.requires.claim in
    record {
      whole = c.requires.whole;
      goal = c.requires.goal;
      cost = parts.small;
      values = parts.low;
      listed = parts.listed;
    }
