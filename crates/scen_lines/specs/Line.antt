-- The lines of a scenario as they are written.
use Rattle.std.specs.Prelude.{◌≡◌, ℕ, zero, suc, ◌+◌, ◌*◌, ◌/◌, ◌%◌, nat_le, if◌then◌else◌, List, [], ◌∷◌}
use Rattle.std.specs.Prelude.{◌++◌, codes, decimal, refl}
use Rattle.std.specs.Fmt.{digits}
use Rattle.root2_cost.specs.declared.Cost.{Cost}
use Rattle.root2_cost.specs.Length.{eight_places, IsNearest, IsBucket}
use Rattle.scen_lines.specs.declared.line.Problem.{Problem}
use Rattle.scen_lines.specs.declared.line.Listed.{Listed}

-- the last digit of a number
abbrev pub last_digit : ℕ → ℕ
last_digit n = 48 + n % 10

-- the last eight digits of a number, zeros where it has fewer
abbrev pub last_eight : ℕ → List ℕ
last_eight n = last_digit (n / 10000000) ∷ last_digit (n / 1000000) ∷ last_digit (n / 100000) ∷
    last_digit (n / 10000) ∷ last_digit (n / 1000) ∷ last_digit (n / 100) ∷ last_digit (n / 10) ∷
    last_digit n ∷ []

-- so many units of the eighth decimal, with all eight decimals
abbrev pub length_text : ℕ → List ℕ
length_text units = decimal (units / 100000000) ++ codes "." ++ last_eight units

-- a tab and a number
abbrev pub tabbed : ℕ → List ℕ
tabbed n = codes "\t" ++ decimal n

-- the six numbers between the name and the length: the sides of the map, the start and the goal
abbrev pub problem_text : Problem → List ℕ
problem_text p = tabbed p.w ++ tabbed p.h ++ tabbed p.sx ++ tabbed p.sy ++ tabbed p.gx ++ tabbed p.gy

-- nine fields parted by one tab: the bucket, the map's name, six numbers and the length
abbrev pub entry_line : List ℕ → Listed → List ℕ
entry_line name listed = decimal listed.bucket ++ codes "\t" ++ name ++ problem_text listed.problem
    ++ codes "\t" ++ length_text listed.units ++ codes "\n"

-- the first line
abbrev pub version_line : List ℕ
version_line = codes "version 1\n"

-- the square root of a number, rounded down
unfoldable pub root : ℕ → ℕ
root zero = 0
root (suc n) = let r = root n in if nat_le ((r + 1) * (r + 1)) (suc n) then r + 1 else r

-- The length nearest to a cost, in units of the eighth decimal. With k for the units of its diagonal moves,
-- twice k√2 is the root of 8k², so the whole number nearest to k√2 is half of that root and 1, rounded down.
abbrev pub nearest_units : Cost → ℕ
nearest_units cost =
    let k = 100000000 * cost.b in 100000000 * cost.a + (root (8 * (k * k)) + 1) / 2

-- the whole fours in a cost
abbrev pub bucket_of : Cost → ℕ
bucket_of cost = (cost.a + root (2 * (cost.b * cost.b))) / 4

-- a query with the bucket and the length of the cost of its least walks
abbrev pub listed_of : Problem → Cost → Listed
listed_of problem cost =
    record { problem = problem; bucket = bucket_of cost; units = nearest_units cost }

-- the bucket and the length are those of this cost
pub record IsOfCost (cost : Cost) (listed : Listed) : Type 0 where
  pub bucket : IsBucket cost listed.bucket
  pub length : IsNearest cost (eight_places listed.units)

-- worked rows, by computing
pub all_decimals : length_text 424264069 ≡ codes "4.24264069"
unfolding digits
all_decimals = refl

pub zeros_too : length_text 1200000034 ≡ codes "12.00000034"
unfolding digits
zeros_too = refl

pub less_than_one : length_text 0 ≡ codes "0.00000000"
unfolding digits
less_than_one = refl

pub nine_fields : entry_line (codes "a b")
    (record {
      problem = record { w = 4; h = 3; sx = 0; sy = 0; gx = 3; gy = 2 };
      bucket = 1;
      units = 341421356;
    })
    ≡ codes "1\ta b\t4\t3\t0\t0\t3\t2\t3.41421356\n"
unfolding digits
nine_fields = refl

pub root_rounded_down : root 24 ≡ 4
unfolding root
root_rounded_down = refl

pub root_of_a_square : root 25 ≡ 5
unfolding root
root_of_a_square = refl

-- 2√2 is less than one four, and 3√2 is more
pub no_four : bucket_of (record { a = 0; b = 2 }) ≡ 0
unfolding root
no_four = refl

pub one_four : bucket_of (record { a = 0; b = 3 }) ≡ 1
unfolding root
one_four = refl

pub straight_units : nearest_units (record { a = 12; b = 0 }) ≡ 1200000000
unfolding root
straight_units = refl
