use Rattle.std.proofs.Common.{inl, inr, subst}
use Rattle.root2_cost.specs.declared.Cost.{Cost}
use Rattle.root2_cost.specs.Order.{IsLess}
use Rattle.root2_cost.proofs.Less.{IsLess-total, IsLess-irreflexive}
use Rattle.root2_cost.proofs.laws.values_tell_pairs.Goals as goal

pub returns : goal.returns
returns c p q = (
  λ (not_less, not_more). elim (IsLess-total p q) [
    | inl less ↦ absurd (not_less less)
    | inr (inl more) ↦ absurd (not_more more)
    | inr (inr same) ↦ same
  ],
  λ same. (
    λ less. IsLess-irreflexive q (subst (λ (r : Cost). IsLess r q) same less),
    λ more. IsLess-irreflexive q (subst (λ (r : Cost). IsLess q r) same more),
  ),
)
