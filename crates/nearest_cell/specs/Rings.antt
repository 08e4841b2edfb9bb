-- Cells by how far they stand off the goal. No public clause cites this module.
use Rattle.std.specs.Prelude.{◌≡◌, ℕ, ◌<◌, Bool, ◌&&◌, ◌||◌, nat_eq, nat_lt, min}
use Rattle.root2_cost.specs.Order.{is_less}
use Rattle.root2_cost.specs.Sums.{is_same_cost}
use Rattle.grid_moves.specs.declared.Cell.{Cell}
use Rattle.grid_moves.specs.Points.{apart, estimate, steps_between}
use Rattle.joined_cells.specs.Joined.{Labels, label_of}
use Rattle.nearest_cell.specs.Nearest.{IsNoFarther}

-- c comes before d: by estimate, then by row and column
abbrev pub is_nearer : Cell → Cell → Cell → Bool
is_nearer goal c d = is_less (estimate c goal) (estimate d goal)
    || is_same_cost (estimate c goal) (estimate d goal)
    && (nat_lt c.y d.y || nat_eq c.y d.y && nat_lt c.x d.x)

-- no cell with this label, so many steps off the goal or fewer, is nearer than c
abbrev pub IsFirstWithin : Labels → ℕ → Cell → ℕ → Cell → Type 0
IsFirstWithin p label goal steps c = (d : Cell) → label_of p d ≡ label → steps_between d goal < steps
    → IsNoFarther p.width goal c d

-- the lesser of the columns and rows that two cells are apart
abbrev pub lesser_side : Cell → Cell → ℕ
lesser_side u v = min (apart u.x v.x) (apart u.y v.y)

-- no cell with this label on the ring, less than k off a middle of it, is nearer than c
abbrev pub IsFirstOnRing : Labels → ℕ → Cell → ℕ → ℕ → Cell → Type 0
IsFirstOnRing p label goal ring k c = (d : Cell) → label_of p d ≡ label → steps_between d goal ≡ ring
    → lesser_side d goal < k → IsNoFarther p.width goal c d
