-- The moves that a taken state offers: legal ones, less those that its parent has offered at no greater cost.
-- Public clauses cite `offer_to` alone, with the `dir_cost` that it stands on.
use Rattle.std.specs.Prelude.{◌≡◌, ℕ, ◌+◌, ◌<◌, ◌≤◌, ◌^◌, true, false, not, ◌&&◌, ◌||◌, List, [], ◌∷◌, Option}
use Rattle.std.specs.Prelude.{Some, None, if◌then◌else◌}
use Rattle.root2_cost.specs.Rank.{rank_of}
use Rattle.grid_moves.specs.declared.Cell.{Cell}
use Rattle.grid_moves.specs.declared.Dir.{Dir}
use Rattle.grid_moves.specs.declared.Dir.TheVariants.{N, NE, E, SE, S, SW, W, NW}
use Rattle.grid_moves.specs.declared.around.Around.{Around}
use Rattle.grid_moves.specs.Around.{IsAround, end_of, is_open_to}
use Rattle.grid_moves.specs.Grid.{GridData, is_free}
use Rattle.grid_moves.specs.Move.{all_dirs, dir_cost}
use Rattle.grid_moves.specs.Points.{estimate}
use Rattle.best_first.specs.declared.node.Node.{Node}
use Rattle.best_first.specs.declared.node.Offer.{Offer}
use Rattle.best_first.specs.declared.state.Layout.TheVariants.{ByCell}
use Rattle.best_first.specs.Space.{SpaceData, IsPlaced}
use Rattle.best_first.specs.State.{start_at, state_of_place}
use Rattle.best_first.specs.Table.{Table, node_for, offered, ClosedBelow}
use Rattle.best_first.specs.Trace.{node_cell, rank_left}
use Rattle.best_first.specs.Ways.{Onward}
use Rattle.plain_search.specs.declared.moves.Behind.{Behind}

-- on which sides of a cell the one lies from which a move leads to it
abbrev pub sides_of : Option Dir → Behind
sides_of None = record { left = false; right = false; above = false; below = false }
sides_of (Some N) = record { left = false; right = false; above = false; below = true }
sides_of (Some NE) = record { left = true; right = false; above = false; below = true }
sides_of (Some E) = record { left = true; right = false; above = false; below = false }
sides_of (Some SE) = record { left = true; right = false; above = true; below = false }
sides_of (Some S) = record { left = false; right = false; above = true; below = false }
sides_of (Some SW) = record { left = false; right = true; above = true; below = false }
sides_of (Some W) = record { left = false; right = true; above = false; below = false }
sides_of (Some NW) = record { left = false; right = true; above = false; below = true }

-- the moves less those that the parent, on these sides, has offered
abbrev pub less_offered : Around → Behind → Around
less_offered a p = record a {
  n = a.n && (p.below || not (p.above || (p.left && a.nw) || (p.right && a.ne)));
  ne = a.ne && (p.left || p.below || not (p.right || p.above));
  e = a.e && (p.left || not (p.right || (p.above && a.ne) || (p.below && a.se)));
  se = a.se && (p.left || p.above || not (p.right || p.below));
  s = a.s && (p.above || not (p.below || (p.left && a.sw) || (p.right && a.se)));
  sw = a.sw && (p.right || p.above || not (p.left || p.below));
  w = a.w && (p.right || not (p.left || (p.above && a.nw) || (p.below && a.sw)));
  nw = a.nw && (p.right || p.below || not (p.left || p.above));
}

-- the offer of a move from the node of that number, whose cost has that rank
abbrev pub offer_to : ℕ → ℕ → Cell → Dir → Offer
offer_to id rank c d = record {
  rank = rank + rank_of (dir_cost d);
  parent = id;
  to = record { cell = c; arrival = Some d };
}

-- after the offers of the open moves in these directions
abbrev pub all_offered : Cell → ℕ → ℕ → Around → Cell → List Dir → Table → Table
all_offered goal id rank a c [] k = k
all_offered goal id rank a c (d ∷ dirs) k =
    all_offered goal id rank a c dirs
    (if is_open_to a d then offered ByCell goal (offer_to id rank (end_of a c d) d) k else k)

-- the links that these offers go over
abbrev pub ways_over : Around → Cell → List Dir → List Onward
ways_over a c [] = []
ways_over a c (d ∷ dirs) =
    if is_open_to a d then record { to = start_at (end_of a c d); cost = dir_cost d } ∷ ways_over a c dirs
    else ways_over a c dirs

-- the moves that are open may be offered: they lead to places, and no key falls below this
abbrev pub MayOffer : Cell → ℕ → ℕ → ℕ → Around → Cell → SpaceData → Type 0
MayOffer goal id key rank a c space =
    (d : Dir) → is_open_to a d ≡ true → IsPlaced space.width space.places (end_of a c d)
    × (key ≤ (node_for goal (offer_to id rank (end_of a c d) d)).key)

-- what the offers of a node ask for
pub record MayExpand (g : GridData) (goal : Cell) (id : ℕ) (n : Node) (space : SpaceData) : Type 0 where
  pub free : is_free g (node_cell n) ≡ true
  pub keyed : rank_of (estimate (node_cell n) goal) ≤ n.key
  pub short : rank_left goal n < 2 ^ 62
  pub closed : ClosedBelow n.key space.table
  pub may : (a : Around) → IsAround g (node_cell n) a
      → MayOffer goal id n.key (rank_left goal n) a (node_cell n) space

-- and what they come to
pub record HasExpanded (g : GridData) (goal : Cell) (id : ℕ) (n : Node) (old new : Table) : Type 0 where
  pub around : Around
  pub is_around : IsAround g (node_cell n) around
  pub table : new ≡ all_offered goal id (rank_left goal n)
      (less_offered around (sides_of (state_of_place n.place).arrival)) (node_cell n) all_dirs old
