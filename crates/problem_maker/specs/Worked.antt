-- Worked rows, by computing.
use Rattle.std.specs.Prelude.{◌≡◌, ℕ, ◌+◌, false, refl, List, [], ◌∷◌, codes}
use Rattle.rand_core.specs.Pcg32Seed.{pcg32_seed}
use Rattle.rand_core.specs.Steps.{u32_at, word_bytes}
use Rattle.grid_moves.specs.declared.Cell.{Cell}
use Rattle.grid_moves.specs.declared.Corner.TheVariants.{Never}
use Rattle.grid_moves.specs.Layers.{Layers, layers_of}
use Rattle.map_maker.specs.Words.{words_from}
use Rattle.plain_search.specs.Costs.{least_cost}
use Rattle.problem_maker.specs.declared.sorting.Problem.{Problem}
use Rattle.problem_maker.specs.Ordered.{in_order}
use Rattle.problem_maker.specs.Tries.{kept_of, leads, tries, tries_by}

-- four cells
abbrev row : List Cell
row = record { x = 0; y = 0 } ∷ record { x = 1; y = 0 } ∷ record { x = 2; y = 0 }
    ∷ record { x = 3; y = 0 } ∷ []

-- the first four tries among them of seed 1, whose words a program of its own made, after PCG's paper
pub tried_of_one : tries row 1 4 ≡
    record { from = record { x = 3; y = 0 }; to = record { x = 3; y = 0 } } ∷
    record { from = record { x = 1; y = 0 }; to = record { x = 2; y = 0 } } ∷
    record { from = record { x = 1; y = 0 }; to = record { x = 1; y = 0 } } ∷
    record { from = record { x = 2; y = 0 }; to = record { x = 3; y = 0 } } ∷ []
unfolding words_from pcg32_seed u32_at word_bytes tries_by
tried_of_one = refl

-- on the map `...@.`, with four free cells, the second of them is the first that is kept: before it start and
-- goal are one
abbrev walled : Layers
walled = layers_of Never 5 1 (codes "...@.")

pub first_of_one : kept_of walled 1 1 ≡
    record { from = record { x = 1; y = 0 }; to = record { x = 2; y = 0 } } ∷ []
unfolding words_from pcg32_seed u32_at word_bytes tries_by least_cost
first_of_one = refl

-- and no walk leads past the wall
pub none_past_the_wall : leads walled (record { x = 2; y = 0 }) (record { x = 4; y = 0 }) ≡ false
unfolding least_cost
none_past_the_wall = refl

-- where there is no cell there is no try
pub none_of_none : tries [] 1 4 ≡ []
none_of_none = refl

-- a problem of so many straight moves, from this column on
abbrev straight : ℕ → ℕ → Problem
straight x moves = record {
  ends = record { from = record { x = x; y = 0 }; to = record { x = x + moves; y = 0 } };
  cost = record { a = moves; b = 0 };
}

-- three of them in the order of their costs: of the two with one cost the first stays the first
pub by_cost : in_order (straight 0 3 ∷ straight 1 2 ∷ straight 0 2 ∷ []) ≡
    straight 1 2 ∷ straight 0 2 ∷ straight 0 3 ∷ []
by_cost = refl
