use Rattle.root2_cost.proofs.Rounding.{bucket_is}
use Rattle.root2_cost.proofs.nearest.bucket.Goals as goal

pub returns : goal.returns
returns c = bucket_is c.args.cost c.isqrt-whole.result c.isqrt-whole.ensures.square_le
    c.isqrt-whole.ensures.next_square_gt
