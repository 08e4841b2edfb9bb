-- The bucket and the length of a cost.
use Rattle.std.proofs.Common.{◌≡◌, refl, ap, sym, ◌∙◌, subst, arith, ℕ, zero, suc, ◌+◌, ◌*◌, ◌<◌, ◌≤◌, Bool}
use Rattle.std.proofs.Common.{true, false}
use Rattle.std.specs.Prelude.{nat_le, if◌then◌else◌, ◌↔◌}
use Rattle.std.proofs.lemmas.Bool.Decides.{nat_tests}
use Rattle.root2_cost.specs.declared.Cost.{Cost}
use Rattle.root2_cost.specs.declared.lengths.Decimal.{Decimal}
use Rattle.root2_cost.specs.Length.{eight_places, IsBucket, IsNearest}
use Rattle.root2_cost.proofs.Rounding.{bucket_is, bucket_one, half_is, nearest_of_half, nearest_one}
use Rattle.scen_lines.specs.declared.line.Listed.{Listed}
use Rattle.scen_lines.specs.declared.line.Problem.{Problem}
use Rattle.scen_lines.specs.Line.{IsOfCost, bucket_of, listed_of, nearest_units, root}

-- the square of s is at most the number, and that of the next one is more
record IsRoot (n s : ℕ) : Type 0 where
  at_most : s * s ≤ n
  next : n < (s + 1) * (s + 1)

next_root : (n s : ℕ) → IsRoot n s
    → IsRoot (suc n) (if nat_le ((s + 1) * (s + 1)) (suc n) then s + 1 else s)
next_root n s is = by_test (nat_le ((s + 1) * (s + 1)) (suc n)) refl
  where
    by_test : (b : Bool) → nat_le ((s + 1) * (s + 1)) (suc n) ≡ b → IsRoot (suc n) (if b then s + 1 else s)
    by_test true e =
        let next : n < (s + 1) * (s + 1) = is.next in
        let most : (s + 1) * (s + 1) ≤ suc n = grind (arith, nat_tests) in
        record { at_most = most; next = omega arith }
    by_test false e =
        let most : s * s ≤ n = is.at_most in
        let next : suc n < (s + 1) * (s + 1) = grind (arith, nat_tests) in
        record { at_most = omega arith; next = next }

root_is : (n : ℕ) → IsRoot n (root n)
unfolding root
root_is zero = record { at_most = omega arith; next = omega arith }
root_is (suc n) = next_root n (root n) (root_is n)

-- the functions tell them
nearest_is : (cost : Cost) → IsNearest cost (eight_places (nearest_units cost))
nearest_is cost =
    let k : ℕ = 100000000 * cost.b in
    let r = root_is (8 * (k * k)) in
    nearest_of_half cost (nearest_units cost)
    (half_is (100000000 * cost.a) k (root (8 * (k * k))) r.at_most r.next)

pub listed_is : (problem : Problem) (cost : Cost) → IsOfCost cost (listed_of problem cost)
listed_is problem cost =
    let r = root_is (2 * (cost.b * cost.b)) in record {
      bucket = bucket_is cost (root (2 * (cost.b * cost.b))) r.at_most r.next;
      length = nearest_is cost;
    }

-- and nothing else is one
pub listed_with : (problem : Problem) (cost : Cost) (bucket : ℕ) (length : Decimal) → IsBucket cost bucket
    → IsNearest cost length
    → record { problem = problem; bucket = bucket; units = length.digits } ≡ listed_of problem cost
listed_with problem cost bucket length some near =
    ap (λ (n : ℕ). listed n length.digits)
    (bucket_one cost bucket (bucket_of cost) some (listed_is problem cost).bucket)
    ∙ ap (λ (d : Decimal). listed (bucket_of cost) d.digits)
    (nearest_one cost length (eight_places (nearest_units cost)) near (nearest_is cost))
  where
    listed : ℕ → ℕ → Listed
    listed bucket units = record { problem = problem; bucket = bucket; units = units }

pub listed_one : (cost : Cost) (listed : Listed) → IsOfCost cost listed
    ↔ (listed ≡ listed_of listed.problem cost)
listed_one cost listed = (
  λ is. listed_with listed.problem cost listed.bucket (eight_places listed.units) is.bucket is.length,
  λ e. subst (λ (l : Listed). IsOfCost cost l) (sym e) (listed_is listed.problem cost),
)
