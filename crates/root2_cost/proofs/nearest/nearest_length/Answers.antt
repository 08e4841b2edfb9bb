use Rattle.std.proofs.Common.{◌+◌, ◌*◌, ◌/◌}
use Rattle.root2_cost.proofs.Rounding.{half_is, nearest_of_half}
use Rattle.root2_cost.proofs.nearest.nearest_length.Goals as goal

pub returns : goal.returns
returns c =
    nearest_of_half c.args.cost (100000000 * c.args.cost.a + (c.isqrt-twice.result + 1) / 2)
    (half_is (100000000 * c.args.cost.a) (100000000 * c.args.cost.b) c.isqrt-twice.result
    c.isqrt-twice.ensures.square_le c.isqrt-twice.ensures.next_square_gt)
