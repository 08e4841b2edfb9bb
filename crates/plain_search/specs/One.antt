-- A function beside a relation.
use Rattle.std.specs.Prelude.{◌≡◌}

-- this is one, and nothing else is
pub record IsTheOne {X : Type 0} (Is : X → Type 0) (x : X) : Type 0 where
  pub is : Is x
  pub only : (other : X) → Is other → other ≡ x
