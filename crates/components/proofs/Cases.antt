-- Cases to go by.
use Rattle.std.proofs.Common.{◌≡◌, ◌≢◌, ℕ, ◌⊎◌, inl, inr, arith, refl, Bool, true, false}

pub one_or_not : (m n : ℕ) → (m ≡ n) ⊎ (m ≢ n)
one_or_not m n = grind arith

pub true_or_false : (b : Bool) → (b ≡ true) ⊎ (b ≡ false)
true_or_false true = inl refl
true_or_false false = inr refl
