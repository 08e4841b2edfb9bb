-- The nearest of the cells that a walk leads to.
use Rattle.std.specs.Prelude.{◌≡◌, ℕ, ◌*◌, ◌≤◌, ◌⊎◌, refl, Bool, false, nat_lt, ◌&&◌, ◌||◌}
use Rattle.std.specs.Prelude.{if◌then◌else◌, codes, List, [], ◌∷◌, map}
use Rattle.std.specs.List.{filter, range_with_len}
use Rattle.std.proofs.Common.{inl, inr, arith}
use Rattle.root2_cost.specs.Order.{IsLess, is_less}
use Rattle.grid_moves.specs.declared.Cell.{Cell}
use Rattle.grid_moves.specs.declared.Corner.TheVariants.{Never}
use Rattle.grid_moves.specs.Grid.{GridData, cell_number, cell_numbered, grid_of, is_free}
use Rattle.grid_moves.specs.Move.{is_same}
use Rattle.grid_moves.specs.Points.{estimate}
use Rattle.joined_cells.specs.Joined.{IsJoined}

-- c is no farther from the goal than d: its estimate is less by value, or the same,
-- and its number is no greater
abbrev pub IsNoFarther : ℕ → Cell → Cell → Cell → Type 0
IsNoFarther width goal c d = IsLess (estimate c goal) (estimate d goal)
    ⊎ ((estimate c goal ≡ estimate d goal) × (cell_number width c ≤ cell_number width d))

-- a walk leads to it from s, and of all such cells none is nearer to the goal
pub record IsNearest (g : GridData) (s goal c : Cell) : Type 0 where
  pub joined : IsJoined g s c
  pub first : (d : Cell) → IsJoined g s d → IsNoFarther g.width goal c d

-- the cells of a grid, in the order of their numbers
abbrev pub grid_cells : GridData → List Cell
grid_cells g = map (cell_numbered g.width) (range_with_len 0 (g.height * g.width))

-- c, or another cell, where its estimate to the goal is less by value
abbrev pub nearer : Cell → Cell → Cell → Cell
nearer goal c d = if is_less (estimate d goal) (estimate c goal) then d else c

-- of a cell and those in a list the first one of least estimate to the goal
unfoldable pub first_nearest : Cell → Cell → List Cell → Cell
first_nearest goal c [] = c
first_nearest goal c (d ∷ cells) = first_nearest goal (nearer goal c d) cells

-- of a list's cells the first one of least estimate to the goal; where it has none, this one
abbrev pub nearest_in : Cell → Cell → List Cell → Cell
nearest_in goal none [] = none
nearest_in goal none (c ∷ cells) = first_nearest goal c cells

-- the nearest cell to the goal, of the start and those to which a walk leads from it
unfoldable pub nearest_of : (Cell → Bool) → GridData → Cell → Cell → Cell
nearest_of leads g start goal = nearest_in goal start
    (filter (λ c. is_same start c || leads c) (grid_cells g))

-- worked rows on a map of three columns, with the goal in its middle: a straight move off comes before a
-- diagonal one, though its number is greater; of two that are straight moves off, the one of the lesser
-- number comes first
abbrev middle : Cell
middle = record { x = 1; y = 1 }

pub straight_before_diagonal : IsNoFarther 3 middle (record { x = 1; y = 2 }) (record { x = 0; y = 0 })
straight_before_diagonal = inl refl

pub by_number : IsNoFarther 3 middle (record { x = 0; y = 1 }) (record { x = 1; y = 2 })
by_number = inr (refl, omega arith)

-- 99 columns are farther than 70 columns and rows, and these farther than 98
pub ninety_nine : IsNoFarther 200 (record { x = 0; y = 0 }) (record { x = 70; y = 70 })
    (record { x = 99; y = 0 })
ninety_nine = inl refl

pub ninety_eight : IsNoFarther 200 (record { x = 0; y = 0 }) (record { x = 98; y = 0 })
    (record { x = 70; y = 70 })
ninety_eight = inl refl

-- around a block in the middle the cell above it has the least number of the nearest ones; where the first
-- row is out of reach it is the cell to the left; where no walk leads anywhere it is the start
abbrev pillar : GridData
pillar = grid_of 3 3 (codes "....@....") Never

abbrev corner : Cell
corner = record { x = 2; y = 2 }

pub above : nearest_of (is_free pillar) pillar corner middle ≡ record { x = 1; y = 0 }
unfolding nearest_of first_nearest
above = refl

pub to_the_left : nearest_of (λ c. is_free pillar c && nat_lt 0 c.y) pillar corner middle
    ≡ record { x = 0; y = 1 }
unfolding nearest_of first_nearest
to_the_left = refl

pub the_start : nearest_of (λ c. false) pillar corner middle ≡ corner
unfolding nearest_of first_nearest
the_start = refl
