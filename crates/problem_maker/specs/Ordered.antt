-- Problems in the order of their costs.
use Rattle.std.specs.Prelude.{Bool, if◌then◌else◌, List, [], ◌∷◌}
use Rattle.std.specs.List.Sorted.{IsPermutation, IsSortedBy, IsStableBy}
use Rattle.root2_cost.specs.Order.{is_less}
use Rattle.problem_maker.specs.declared.sorting.Problem.{Problem}

-- p costs less than q
abbrev pub is_cheaper : Problem → Problem → Bool
is_cheaper p q = is_less p.cost q.cost

-- an element is put before the first that is not less
abbrev pub placed : {X : Type 0} → (X → X → Bool) → X → List X → List X
placed less x [] = x ∷ []
placed less x (y ∷ ys) = if less y x then y ∷ placed less x ys else x ∷ y ∷ ys

-- each element in its place, from the last one to the first
abbrev pub in_order_by : {X : Type 0} → (X → X → Bool) → List X → List X
in_order_by less [] = []
in_order_by less (x ∷ xs) = placed less x (in_order_by less xs)

-- problems in the order of their costs, those of equal costs as they stood
abbrev pub in_order : List Problem → List Problem
in_order = in_order_by is_cheaper

-- the same problems, of which none costs less than the one before it, and those of equal costs stand in the
-- order that they had
pub record AreOrdered (before after : List Problem) : Type 0 where
  pub same : IsPermutation before after
  pub rising : IsSortedBy is_cheaper after
  pub stable : IsStableBy is_cheaper before after
