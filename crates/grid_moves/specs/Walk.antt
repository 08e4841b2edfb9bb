-- Walks, their costs, and least walks.
use Rattle.std.specs.Prelude.{◌≡◌, Bool, true, false, ◌&&◌, IsTrue, refl, List, [], ◌∷◌}
use Rattle.root2_cost.specs.declared.Cost.{Cost}
use Rattle.root2_cost.specs.Order.{IsAtMost}
use Rattle.root2_cost.specs.Sums.{add_costs, no_cost}
use Rattle.grid_moves.specs.declared.Cell.{Cell}
use Rattle.grid_moves.specs.declared.Corner.TheVariants.{Never, One}
use Rattle.grid_moves.specs.Grid.{GridData, is_free}
use Rattle.grid_moves.specs.Move.{is_legal, move_cost}
use Rattle.grid_moves.specs.Examples.{pillar}

-- a non-empty list of free cells in which each two neighbours are a legal move
abbrev pub is_walk : GridData → List Cell → Bool
is_walk g [] = false
is_walk g (c ∷ []) = is_free g c
is_walk g (c ∷ d ∷ cells) = is_legal g c d && is_walk g (d ∷ cells)

-- the number of straight moves, and the number of diagonal moves
abbrev pub cost_of : List Cell → Cost
cost_of [] = no_cost
cost_of (c ∷ []) = no_cost
cost_of (c ∷ d ∷ cells) = add_costs (move_cost c d) (cost_of (d ∷ cells))

-- where c followed by these cells ends
abbrev pub last_of : Cell → List Cell → Cell
last_of c [] = c
last_of c (d ∷ cells) = last_of d cells

-- s followed by these cells is a walk to t
pub record IsWalk (g : GridData) (s t : Cell) (cells : List Cell) : Type 0 where
  pub legal : IsTrue (is_walk g (s ∷ cells))
  pub ends : last_of s cells ≡ t

-- no walk leads from s to t
abbrev pub NoWalk : GridData → Cell → Cell → Type 0
NoWalk g s t = (cells : List Cell) → ¬ IsWalk g s t cells

-- a walk from s to t that no walk from s to t undercuts
pub record IsLeastWalk (g : GridData) (s t : Cell) (cells : List Cell) : Type 0 where
  pub walk : IsWalk g s t cells
  pub least : (others : List Cell) → IsWalk g s t others
      → IsAtMost (cost_of (s ∷ cells)) (cost_of (s ∷ others))

-- a worked row: round the pillar of `.../.@./...`, from the upper left to the lower right
abbrev round_the_pillar : List Cell
round_the_pillar = record { x = 0; y = 0 } ∷ record { x = 1; y = 0 } ∷ record { x = 2; y = 0 } ∷ record
    { x = 2; y = 1 } ∷ record { x = 2; y = 2 } ∷ []

pub round_is_legal : is_walk (pillar Never) round_the_pillar ≡ true
round_is_legal = refl

pub round_costs_four : cost_of round_the_pillar ≡ record { a = 4; b = 0 }
round_costs_four = refl

-- past its corner it is one move shorter, where one blocked cell may be passed
abbrev past_the_pillar : List Cell
past_the_pillar = record { x = 0; y = 0 } ∷ record { x = 1; y = 0 } ∷ record { x = 2; y = 1 } ∷ record
    { x = 2; y = 2 } ∷ []

pub past_is_not_legal : is_walk (pillar Never) past_the_pillar ≡ false
past_is_not_legal = refl

pub past_is_legal-one : is_walk (pillar One) past_the_pillar ≡ true
past_is_legal-one = refl

pub past_costs_two_and_a_diagonal : cost_of past_the_pillar ≡ record { a = 2; b = 1 }
past_costs_two_and_a_diagonal = refl
