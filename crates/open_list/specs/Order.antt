-- What the order of the nodes of an open list has to be.
use Rattle.std.specs.Prelude.{◌≡◌, Bool, true, false}

module _ {N : Type 0} (before : N → N → Bool) where
  -- a strict weak order: nodes of which none is before the other may be unequal
  pub record IsStrictWeakOrder : Type 0 where
    pub not_before_itself : (a : N) → before a a ≡ false
    pub before_is_transitive : (a b c : N) → before a b ≡ true → before b c ≡ true → before a c ≡ true
    pub not_before_is_transitive : (a b c : N) → before a b ≡ false → before b c ≡ false
        → before a c ≡ false
