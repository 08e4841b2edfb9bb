use Rattle.root2_cost.proofs.Rounding.{bucket_one}
use Rattle.root2_cost.proofs.laws.bucket_is_one.Goals as goal

pub returns : goal.returns
returns c = bucket_one
