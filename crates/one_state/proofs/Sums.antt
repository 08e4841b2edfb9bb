-- Sums of either sign: their order stays where the same is added to both, and it is that of costs.
use Rattle.std.proofs.Common.{◌≡◌, arith, ap, sym, ◌∙◌, subst}
use Rattle.std.specs.Prelude.{ℤ, ◌+ℤ◌, ◌-ℤ◌}
use Rattle.std.proofs.lemmas.Int.{ints}
use Rattle.root2_cost.specs.declared.Cost.{Cost}
use Rattle.root2_cost.specs.declared.Signed.{Signed}
use Rattle.root2_cost.specs.Order.{is_positive}
use Rattle.root2_cost.specs.Signed.{signed_of, add_signed, is_signed_less, IsSignedAtMost}
use Rattle.root2_cost.specs.Sums.{add_costs, no_cost}
use Rattle.root2_cost.proofs.Differences.{same_signed, signed_at_most-refl, signed_at_most-trans}
use Rattle.root2_cost.proofs.Most.{Most}

-- p is at most q, as a record, so that chains of it need no sums written out
pub record Below (p q : Signed) : Type 0 where
  pub is : IsSignedAtMost p q

pub Below-then : {p q r : Signed} → Below p q → Below q r → Below p r
Below-then {p} {q} {r} m n = record { is = signed_at_most-trans p q r m.is n.is }

pub Below-same : {p q : Signed} → p ≡ q → Below p q
Below-same {p} {q} e = subst (λ (r : Signed). Below p r) e (record { is = signed_at_most-refl p })

moved : (c p q : Signed) → is_signed_less (add_signed c p) (add_signed c q) ≡ is_signed_less p q
moved c p q =
    let a : (c.a +ℤ q.a) -ℤ (c.a +ℤ p.a) ≡ q.a -ℤ p.a = omega (arith, ints) in
    let b : (c.b +ℤ q.b) -ℤ (c.b +ℤ p.b) ≡ q.b -ℤ p.b = omega (arith, ints) in
    ap (λ (n : ℤ). is_positive n ((c.b +ℤ q.b) -ℤ (c.b +ℤ p.b))) a
    ∙ ap (λ (n : ℤ). is_positive (q.a -ℤ p.a) n) b

pub add_signed-comm : (p q : Signed) → add_signed p q ≡ add_signed q p
add_signed-comm p q = same_signed (add_signed p q) (add_signed q p) (omega (arith, ints))
    (omega (arith, ints))

pub add_signed-assoc : (p q r : Signed) → add_signed (add_signed p q) r ≡ add_signed p (add_signed q r)
add_signed-assoc p q r = same_signed (add_signed (add_signed p q) r) (add_signed p (add_signed q r))
    (omega (arith, ints)) (omega (arith, ints))

pub Below-add_left : (c p q : Signed) → Below p q → Below (add_signed c p) (add_signed c q)
Below-add_left c p q m = record { is = moved c q p ∙ m.is }

pub Below-cancel_left : (c p q : Signed) → Below (add_signed c p) (add_signed c q) → Below p q
Below-cancel_left c p q m = record { is = sym (moved c q p) ∙ m.is }

pub Below-cancel_right : (c p q : Signed) → Below (add_signed p c) (add_signed q c) → Below p q
Below-cancel_right c p q m = Below-cancel_left c p q
    (Below-then (Below-same (add_signed-comm c p)) (Below-then m (Below-same (add_signed-comm q c))))

-- of costs it is their order
pub of_costs : {p q : Cost} → Most p q → Below (signed_of p) (signed_of q)
of_costs m = record { is = m.is }

pub to_costs : (p q : Cost) → Below (signed_of p) (signed_of q) → Most p q
to_costs p q m = record { is = m.is }

pub signed_sum : (p q : Cost) → signed_of (add_costs p q) ≡ add_signed (signed_of p) (signed_of q)
signed_sum p q = same_signed (signed_of (add_costs p q)) (add_signed (signed_of p) (signed_of q))
    (omega (arith, ints)) (omega (arith, ints))

pub add_signed-nothing_left : (p : Signed) → add_signed (signed_of no_cost) p ≡ p
add_signed-nothing_left p = same_signed (add_signed (signed_of no_cost) p) p (omega (arith, ints))
    (omega (arith, ints))

pub add_signed-nothing_right : (p : Signed) → add_signed p (signed_of no_cost) ≡ p
add_signed-nothing_right p = same_signed (add_signed p (signed_of no_cost)) p (omega (arith, ints))
    (omega (arith, ints))
