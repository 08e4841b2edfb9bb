-- The lists of least costs: they are those of the closed and of the reached cells.
use Rattle.std.proofs.Common.{◌≡◌, ℕ, ◌+◌, ◌*◌, ◌<◌, ◌≤◌, ◌^◌, arith, refl, ap, sym, ◌∙◌, subst, true, List}
use Rattle.std.proofs.Common.{map, length, get_or}
use Rattle.std.proofs.lemmas.Option.{cond_some, option_and_then_some, same_Some, slice_get-get_or}
use Rattle.std.specs.Prelude.{Option, Some, None, slice_get}
use Rattle.std.specs.List.{Contains}
use Rattle.std.specs.List.Sorted.{IsStrictlyIncreasing}
use Rattle.std.specs.Option.{option_map}
use Rattle.root2_cost.specs.declared.Cost.{Cost}
use Rattle.root2_cost.specs.Order.{is_less}
use Rattle.root2_cost.specs.Sums.{add_costs}
use Rattle.grid_moves.specs.declared.Cell.{Cell}
use Rattle.grid_moves.specs.Grid.{GridData, IsGrid, cell_number, cell_numbered, is_free}
use Rattle.grid_moves.specs.Points.{estimate}
use Rattle.grid_moves.specs.Walk.{IsWalk}
use Rattle.grid_moves.proofs.Legal.{free_inside}
use Rattle.grid_moves.proofs.Places.{free_below, inside_from}
use Rattle.grid_moves.proofs.Short.{few_cells}
use Rattle.grid_moves.proofs.Walks.{end_free}
use Rattle.plain_search.specs.Costs.{AreCostsToAll, IsCostTo, least_cost}
use Rattle.plain_search.specs.Lists.{AreClosed, AreReached, HasWalk, IsBelow, IsLeastCost, closed_at}
use Rattle.plain_search.specs.Lists.{closed_of, if_below, of_cells, reached_at, reached_of}
use Rattle.plain_search.proofs.Ascending.{all_made, made_up, only_made}
use Rattle.plain_search.proofs.LeastCosts.{cost_is, costs_are, few_least}
use Rattle.plain_search.proofs.Numbering.{lies_inside, number_is, numbered_is}

-- what is made of cells
module _ (g : GridData) {X : Type 0} (cell : X → Cell) (make : Cell → Option X)
    (of : (c : Cell) (x : X) → make c ≡ Some x → cell x ≡ c) where
  abbrev number : X → ℕ
  number x = cell_number g.width (cell x)

  abbrev at_number : ℕ → Option X
  at_number k = make (cell_numbered g.width k)

  numbered : (k : ℕ) (x : X) → at_number k ≡ Some x → number x ≡ k
  numbered k x e =
      ap (λ (c : Cell). cell_number g.width c) (of (cell_numbered g.width k) x e)
      ∙ number_is g.width k

  only : (x : X) → Contains (of_cells g make) x → make (cell x) ≡ Some x
  only x m =
      let made = (only_made number at_number numbered (g.height * g.width) 0 x m).1 in
      subst (λ (c : Cell). make c ≡ Some x) (sym (of (cell_numbered g.width (number x)) x made)) made

  all : (x : X) → is_free g (cell x) ≡ true → make (cell x) ≡ Some x → Contains (of_cells g make) x
  all x free e =
      let c : Cell = cell x in
      let inside = free_inside g c free in
      let same : cell_numbered g.width (cell_number g.width c) ≡ c =
      numbered_is g c (inside_from g c inside.0 inside.1) in
      all_made number at_number numbered (g.height * g.width) 0 x (omega arith)
      (let below = free_below g c free in omega arith) (ap make same ∙ e)

  ascend : IsStrictlyIncreasing (map number (of_cells g make))
  ascend = made_up number at_number numbered (g.height * g.width)

module _ (g : GridData) (s : Cell) (free : is_free g s ≡ true) where
  tells : (c : Cell) (cost : Cost) → least_cost g s c ≡ Some cost → IsLeastCost g s c cost
  tells c cost e = subst (λ (o : Option Cost). IsCostTo g s c o) e (cost_is g s c free)

  is_told : (c : Cell) (cost : Cost) → IsLeastCost g s c cost → least_cost g s c ≡ Some cost
  is_told c cost least = sym ((costs_are g s c free).only (Some cost) least)

  module _ (t : Cell) (bound : Cost) where
    record IsClosedAt (c : Cell) (e : Cell × Cost) : Type 0 where
      cell : e.0 ≡ c
      cost : least_cost g s c ≡ Some e.1
      below : IsBelow t bound c e.1

    is_closed : (c : Cell) (e : Cell × Cost) → closed_at g s t bound c ≡ Some e → IsClosedAt c e
    is_closed c e is = option_and_then_some (if_below t bound c) (least_cost g s c) e is (λ cost told made.
        let parts = cond_some (is_less (add_costs cost (estimate c t)) bound) (c, cost) e made in record {
          cell = ap (λ (x : Cell × Cost). x.0) (sym parts.1);
          cost = told ∙ ap (λ (x : Cell × Cost). Some x.1) parts.1;
          below = subst (λ (x : Cell × Cost). IsBelow t bound c x.1) parts.1 parts.0;
        })

    abbrev cell_in : Cell × Cost → Cell
    cell_in e = e.0

    of : (c : Cell) (e : Cell × Cost) → closed_at g s t bound c ≡ Some e → cell_in e ≡ c
    of c e is = (is_closed c e is).cell

    pub closed_are : AreClosed g s t bound (closed_of g s t bound)
    unfolding closed_of
    closed_are = record {
      only = λ c cost m.
          let is = is_closed c (c, cost) (only g cell_in (closed_at g s t bound) of (c, cost) m) in
          (tells c cost is.cost, is.below);
      all = λ c cost least below. all g cell_in (closed_at g s t bound) of (c, cost)
          (end_free g s c least.cells least.least.walk) (rw (is_told c cost least, below) refl);
      ascend = ascend g cell_in (closed_at g s t bound) of;
    }

  is_reached : (c d : Cell) → reached_at g s c ≡ Some d → (d ≡ c) × HasWalk g s c
  is_reached c d is = by_cost (least_cost g s c) refl is
    where
      by_cost : (o : Option Cost) → least_cost g s c ≡ o → option_map (λ (cost : Cost). c) o ≡ Some d
          → (d ≡ c) × HasWalk g s c
      by_cost None told made = absurd (cc)
      by_cost (Some cost) told made =
          let least = tells c cost told in
          (sym (same_Some c d made), record { cells = least.cells; walk = least.least.walk })

  was_reached : (c : Cell) (cells : List Cell) → IsWalk g s c cells → reached_at g s c ≡ Some c
  was_reached c cells walk = by_cost (least_cost g s c) (cost_is g s c free)
    where
      by_cost : (o : Option Cost) → IsCostTo g s c o → option_map (λ (cost : Cost). c) o ≡ Some c
      by_cost None none = absurd (none cells walk)
      by_cost (Some cost) least = refl

  abbrev itself : Cell → Cell
  itself c = c

  of_reached : (c d : Cell) → reached_at g s c ≡ Some d → itself d ≡ c
  of_reached c d is = (is_reached c d is).0

  pub reached_are : AreReached g s (reached_of g s)
  unfolding reached_of
  reached_are = record {
    only = λ c m. (is_reached c c (only g itself (reached_at g s) of_reached c m)).1;
    all = λ c cells walk. all g itself (reached_at g s) of_reached c (end_free g s c cells walk)
        (was_reached c cells walk);
    ascend = ascend g itself (reached_at g s) of_reached;
  }

  -- each entry of a pass is the least cost to the cell of its number
  module _ (costs : List (Option Cost)) (are : AreCostsToAll g s costs) (k : ℕ)
      (below : k < length costs) where
    pub on_map : k < g.height * g.width
    on_map = subst (λ (n : ℕ). k < n) are.as_many below

    pub told : (entry : Option Cost) → get_or costs k None ≡ entry
        → entry ≡ least_cost g s (cell_numbered g.width k)
    told entry e =
        let c : Cell = cell_numbered g.width k in
        (costs_are g s c free).only entry (are.right c entry (lies_inside g k on_map)
        (ap (λ (n : ℕ). slice_get costs n) (number_is g.width k) ∙ slice_get-get_or costs k None below
        ∙ ap (λ (o : Option Cost). Some o) e))

    pub told_few : IsGrid g → (cost : Cost) → get_or costs k None ≡ Some cost → cost.a + cost.b ≤ 2 ^ 24
    told_few whole cost e =
        let c : Cell = cell_numbered g.width k in
        let few = few_least g s c cost (tells c cost (sym (told (Some cost) e))) in
        let most = few_cells g whole in
        omega arith
