-- The first moves that costs tell, and the letter of a cell.
use Rattle.std.proofs.Common.{◌≡◌, ◌<◌, ◌*◌, arith, refl, ap, sym, ◌∙◌, Bool, true, false, List, [], ◌∷◌}
use Rattle.std.proofs.Common.{length, map}
use Rattle.std.specs.Prelude.{Option, Some, None, if◌then◌else◌, slice_index_or}
use Rattle.std.specs.List.{find}
use Rattle.std.proofs.Math.ListN.{get_or-map}
use Rattle.root2_cost.specs.declared.Cost.{Cost}
use Rattle.grid_moves.specs.declared.Cell.{Cell}
use Rattle.grid_moves.specs.declared.Dir.{Dir}
use Rattle.grid_moves.specs.Grid.{GridData, IsGrid, cell_number, is_free, is_inside}
use Rattle.grid_moves.specs.Move.{all_dirs, is_same, legal_ahead, move_cost}
use Rattle.grid_moves.proofs.Ahead.{legal_ahead-is}
use Rattle.grid_moves.proofs.Legal.{and_both, legal_is}
use Rattle.grid_moves.proofs.Places.{inside_below, inside_is}
use Rattle.cost_waves.specs.Rank.{cost_known, far}
use Rattle.cost_waves.specs.Stored.{WaveData, Tells, cost_at}
use Rattle.plain_search.specs.Costs.{begins, falls_by}
use Rattle.first_moves.specs.First.{first_move}
use Rattle.first_moves.specs.Inward.{leads, leads_to}
use Rattle.first_moves.proofs.Inward.{first_inward}
use Rattle.first_moves.proofs.Led.{moves_are}
use Rattle.move_field.specs.Field.{field_letter, move_letter}
use Rattle.move_field.specs.Priced.{ArePriced, falls_to, first_by, leads_by, price_at}

-- two tests that agree find the same
find-same : (p q : Dir → Bool) → ((d : Dir) → p d ≡ q d) → (dirs : List Dir) → find p dirs ≡ find q dirs
find-same p q same [] = refl
find-same p q same (d ∷ dirs) =
    ap (λ (b : Bool). if b then Some d else find p dirs) (same d)
    ∙ ap (λ (o : Option Dir). if q d then Some d else o) (find-same p q same dirs)

-- and one that always fails nothing
find-nothing : (p : Dir → Bool) → ((d : Dir) → p d ≡ false) → (dirs : List Dir) → find p dirs ≡ None
find-nothing p none [] = refl
find-nothing p none (d ∷ dirs) = rw (none d) (find-nothing p none dirs)

-- so from a cell without a cost no direction leads on
nothing-leads : (g : GridData) (costs : List (Option Cost)) (c : Cell)
    → find (leads_by g costs c None) all_dirs ≡ None
unfolding leads_by
nothing-leads g costs c =
    find-nothing (leads_by g costs c None) (λ d. to_none (legal_ahead g c d)) all_dirs
  where
    to_none : (o : Option Cell) → falls_to g costs c None o ≡ false
    to_none None = refl
    to_none (Some v) = refl

pub nothing-by : (g : GridData) (costs : List (Option Cost)) (c : Cell) → price_at g costs c ≡ None
    → None ≡ first_by g costs c
nothing-by g costs c none =
    sym (ap (λ (o : Option Cost). find (leads_by g costs c o) all_dirs) none ∙ nothing-leads g costs c)

module _ (g : GridData) (goal : Cell) (costs : List (Option Cost)) (p : ArePriced g goal costs) where
  -- the costs are those that the pass stored
  price-is : (c : Cell) → price_at g costs c ≡ cost_at p.waves c
  price-is c =
      ap (λ (l : List (Option Cost)). slice_index_or l (cell_number g.width c) None) p.are
      ∙ get_or-map cost_known p.waves.ranks (cell_number g.width c) far
      ∙ ap (λ n. cost_known (slice_index_or p.waves.ranks (cell_number n c) far)) (sym p.pass.width)

  leads-same : (c : Cell) (o : Option Cell) → falls_to g costs c (price_at g costs c) o ≡ leads_to p.waves c o
  leads-same c None = refl
  leads-same c (Some v) =
      ap (λ (o : Option Cost). falls_by (move_cost c v) o (price_at g costs v)) (price-is c)
      ∙ ap (λ (o : Option Cost). falls_by (move_cost c v) (cost_at p.waves c) o) (price-is v)

  -- so the first direction that leads on from a free cell is the first move
  pub first-is : (c : Cell) → is_free g c ≡ true → first_by g costs c ≡ first_move g c goal
  unfolding leads_by
  first-is c free =
      find-same (leads_by g costs c (price_at g costs c)) (leads g p.waves c)
      (λ d. leads-same c (legal_ahead g c d)) all_dirs
      ∙ (moves_are g c goal free).only (find (leads g p.waves c) all_dirs)
      (first_inward g goal p.waves p.pass c (and_both (is_inside g c) _ free).0)

-- from a cell that is not free no move leads
blocked-ahead : (g : GridData) (c : Cell) (d : Dir) (o : Option Cell) → is_free g c ≡ false
    → legal_ahead g c d ≡ o → o ≡ None
blocked-ahead g c d None blocked is = refl
blocked-ahead g c d (Some v) blocked is =
    absurd (let free = (legal_is g c v (legal_ahead-is g c v d is)).source in cc)

blocked-none : (g : GridData) (c t : Cell) → is_free g c ≡ false → first_move g c t ≡ None
unfolding begins
blocked-none g c t blocked =
    find-nothing (begins g c t)
    (λ d. let e : legal_ahead g c d
    ≡ None = blocked-ahead g c d (legal_ahead g c d) blocked refl in rw e refl)
    all_dirs

pub letter-goal : (g : GridData) (goal c : Cell) → is_same c goal ≡ true → 42 ≡ field_letter g goal c
letter-goal g goal c same = rw same refl

pub letter-blocked : (g : GridData) (goal c : Cell) → is_same c goal ≡ false → is_free g c ≡ false
    → 45 ≡ field_letter g goal c
letter-blocked g goal c other blocked = rw (other, blocked-none g c goal blocked) refl

pub letter-free : (g : GridData) (goal c : Cell) (costs : List (Option Cost)) (o : Option Dir)
    → ArePriced g goal costs → is_same c goal ≡ false → is_free g c ≡ true → o ≡ first_by g costs c
    → move_letter o ≡ field_letter g goal c
letter-free g goal c costs o p other free is =
    ap move_letter (is ∙ first-is g goal costs p c free) ∙ sym (rw other refl)

-- what a pass stored are the costs of all cells
pub priced : (g : GridData) (goal : Cell) (w : WaveData) (costs : List (Option Cost)) → IsGrid g
    → w.width ≡ g.width → w.height ≡ g.height → Tells g goal w → costs ≡ map cost_known w.ranks
    → length costs ≡ w.height * w.width → ArePriced g goal costs
priced g goal w costs grid wide high tells are whole = record {
  waves = w;
  pass = record { sides = grid.sides; width = wide; height = high; tells = tells };
  are = are;
  whole = whole ∙ ap (λ n. n * w.width) high ∙ ap (λ n. g.height * n) wide;
}

-- a cell of the map has its place among the costs
pub record HasPlace (g : GridData) (costs : List (Option Cost)) (c : Cell) : Type 0 where
  pub column : c.x < g.width
  pub row : c.y < 4096
  pub entry : cell_number g.width c < length costs

pub inside-place : (g : GridData) (costs : List (Option Cost)) (c : Cell) → IsGrid g
    → length costs ≡ g.height * g.width → is_inside g c ≡ true → HasPlace g costs c
inside-place g costs c grid whole inside =
    let on = inside_is g c inside in
    let low = grid.sides.low in
    let below = inside_below g c inside in
    record { column = on.0; row = omega arith; entry = omega arith }

pub free-place : (g : GridData) (costs : List (Option Cost)) (c : Cell) → IsGrid g
    → length costs ≡ g.height * g.width → is_free g c ≡ true → HasPlace g costs c
free-place g costs c grid whole free =
    inside-place g costs c grid whole (and_both (is_inside g c) _ free).0

pub ahead-place : (g : GridData) (costs : List (Option Cost)) (c v : Cell) (d : Dir) → IsGrid g
    → length costs ≡ g.height * g.width → legal_ahead g c d ≡ Some v → HasPlace g costs v
ahead-place g costs c v d grid whole is =
    free-place g costs v grid whole (legal_is g c v (legal_ahead-is g c v d is)).target
