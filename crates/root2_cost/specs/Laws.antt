-- What holds of all costs.
use Rattle.std.specs.Prelude.{◌≡◌, ℕ, ◌+◌, ◌*◌, ◌^◌, ◌<◌, ◌≤◌, ◌⊎◌, ◌↔◌, ◌<ℤ◌}
use Rattle.std.specs.Int.RustNames.{unsigned_abs}
use Rattle.root2_cost.specs.declared.Cost.{Cost}
use Rattle.root2_cost.specs.Order.{IsLess, IsAtMost}
use Rattle.root2_cost.specs.Sums.{add_costs, octile_cost}
use Rattle.root2_cost.specs.declared.Signed.{Signed}
use Rattle.root2_cost.specs.Signed.{signed_of, add_signed, signed_difference, IsSignedLess, IsSignedAtMost}
use Rattle.root2_cost.specs.Signed.{RisesAtMost}
use Rattle.root2_cost.specs.Rank.{cost_of_rank, rank_of, signed_rank}
use Rattle.root2_cost.specs.declared.lengths.Decimal.{Decimal}
use Rattle.root2_cost.specs.declared.lengths.Verdict.TheVariants.{Agree}
use Rattle.root2_cost.specs.Verdict.{verdict_of}
use Rattle.root2_cost.specs.Length.{IsNearest, IsBucket}

-- of two costs one is the lesser, or they are the same pair
abbrev pub OrderIsTotal : Type 0
OrderIsTotal = (p q : Cost) → IsLess p q ⊎ (p ≡ q) ⊎ IsLess q p

-- a cost less than a lesser one is less
abbrev pub OrderIsTransitive : Type 0
OrderIsTransitive = (p q r : Cost) → IsLess p q → IsLess q r → IsLess p r

-- two costs neither of which is the lesser are the same pair, and no cost is less than itself
abbrev pub ValuesTellPairs : Type 0
ValuesTellPairs = (p q : Cost) → ((¬ IsLess p q) × (¬ IsLess q p)) ↔ (p ≡ q)

-- the same cost added to both sides keeps the order, and so does taking it away
abbrev pub SumsKeepOrder : Type 0
SumsKeepOrder = (r p q : Cost) → IsLess p q ↔ IsLess (add_costs p r) (add_costs q r)

-- m straight moves cost less than n diagonal ones exactly where m² is less than 2n²
abbrev pub SquaresDecide : Type 0
SquaresDecide = (m n : ℕ) → IsLess (record { a = m; b = 0 }) (record { a = 0; b = n }) ↔ (m * m < 2 * (n * n))

-- where j and k columns reach over m, and i and l rows over n, their distances reach over that of m and n
abbrev pub DistancesAdd : Type 0
DistancesAdd = (m n j i k l : ℕ) → m ≤ j + k → n ≤ i + l
    → IsAtMost (octile_cost m n) (add_costs (octile_cost j i) (octile_cost k l))

-- there are fewer than 2^31 moves of each kind
pub record HasShortParts (c : Cost) : Type 0 where
  pub straight : c.a < 2 ^ 31
  pub diagonal : c.b < 2 ^ 31

-- of two such costs the lesser is the one of the lesser rank
abbrev pub RanksTellOrder : Type 0
RanksTellOrder = (p q : Cost) → HasShortParts p → HasShortParts q → IsLess p q ↔ (rank_of p < rank_of q)

-- the cost of its rank is such a cost itself, so no two have one rank
abbrev pub RanksTellCosts : Type 0
RanksTellCosts = (c : Cost) → HasShortParts c → cost_of_rank (rank_of c) ≡ c

-- as differences, costs have their order
abbrev pub SignedCostsKeepOrder : Type 0
SignedCostsKeepOrder = (p q : Cost) → IsSignedLess (signed_of p) (signed_of q) ↔ IsLess p q

-- a difference at most one that is at most a third is at most the third
abbrev pub SignedOrderIsTransitive : Type 0
SignedOrderIsTransitive = (p q r : Signed) → IsSignedAtMost p q → IsSignedAtMost q r → IsSignedAtMost p r

-- the differences of consecutive values sum up to that of the last and the first
abbrev pub DifferencesTelescope : Type 0
DifferencesTelescope = (p q r : Signed)
    → add_signed (signed_difference q p) (signed_difference r q) ≡ signed_difference r p

-- the costs of two steps together bound the rise over both
abbrev pub BoundsAddUp : Type 0
BoundsAddUp = (p q r : Signed) (m n : Cost) → RisesAtMost p m q → RisesAtMost q n r
    → RisesAtMost p (add_costs m n) r

-- both parts are below 2^30 in amount
pub record HasShortSides (s : Signed) : Type 0 where
  pub straight : unsigned_abs s.a < 2 ^ 30
  pub diagonal : unsigned_abs s.b < 2 ^ 30

-- of two such differences the lesser is the one of the lesser rank
abbrev pub SignedRanksTellOrder : Type 0
SignedRanksTellOrder = (p q : Signed) → HasShortSides p → HasShortSides q
    → IsSignedLess p q ↔ (signed_rank p <ℤ signed_rank q)

-- two lengths of eight decimals that are nearest to a cost are the same
abbrev pub NearestIsOne : Type 0
NearestIsOne = (cost : Cost) (p q : Decimal) → IsNearest cost p → IsNearest cost q → p ≡ q

-- the nearest length agrees with the cost
abbrev pub NearestAgrees : Type 0
NearestAgrees = (cost : Cost) (length : Decimal) → IsNearest cost length → verdict_of length cost ≡ Agree

-- the nearest length of at most 2^24 moves of each kind has at most eight digits before the point
abbrev pub NearestIsShort : Type 0
NearestIsShort = (cost : Cost) (length : Decimal) → IsNearest cost length → cost.a ≤ 2 ^ 24
    → cost.b ≤ 2 ^ 24 → length.digits < 10 ^ 16

-- two buckets of a cost are the same
abbrev pub BucketIsOne : Type 0
BucketIsOne = (cost : Cost) (p q : ℕ) → IsBucket cost p → IsBucket cost q → p ≡ q
