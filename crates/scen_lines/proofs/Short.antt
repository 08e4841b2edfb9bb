-- Buckets and lengths of costs are short.
use Rattle.std.proofs.Common.{ℕ, ◌^◌, ◌<◌, ◌≤◌, arith}
use Rattle.std.proofs.lemmas.Bool.Decides.{nat_tests}
use Rattle.root2_cost.specs.declared.Cost.{Cost}
use Rattle.root2_cost.specs.Length.{eight_places, IsBucket}
use Rattle.root2_cost.proofs.Rounding.{nearest_short}
use Rattle.scen_text.specs.Names.{IsName}
use Rattle.scen_lines.specs.Line.{IsOfCost}
use Rattle.scen_lines.specs.Laws.{Named, AreShort, IsReadable}

bucket_short : (cost : Cost) (bucket : ℕ) → IsBucket cost bucket → cost.a ≤ 2 ^ 24 → cost.b ≤ 2 ^ 24
    → bucket < 10 ^ 9
bucket_short cost bucket is g h = grind (arith, nat_tests)

pub cost_readable : (cost : Cost) (entry : Named) → IsOfCost cost entry.listed → cost.a ≤ 2 ^ 24
    → cost.b ≤ 2 ^ 24 → IsName entry.name → AreShort entry.listed.problem → IsReadable entry
cost_readable cost entry is g h name problem = record {
  name = name;
  problem = problem;
  bucket = bucket_short cost entry.listed.bucket is.bucket g h;
  units = nearest_short cost (eight_places entry.listed.units) is.length g h;
}
