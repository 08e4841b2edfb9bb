-- Problems and their costs.
use Rattle.std.proofs.Common.{◌≡◌, refl, sym, ap, ◌∙◌, List, [], ◌∷◌, ◌++◌, ℕ, ◌+◌, ◌<◌, ◌≤◌, get_or, arith}
use Rattle.std.proofs.Common.{true, false, Bool, ◌&&◌, ◌||◌, length, subst, take, map}
use Rattle.std.specs.Prelude.{if◌then◌else◌, nat_eq, Option, Some, None, unwrap_or}
use Rattle.std.proofs.lemmas.List.{flat_map_more, map-append, take_more}
use Rattle.std.proofs.lemmas.List.Elements.{All-map, All-weaker}
use Rattle.std.proofs.lemmas.List.Sorted.{All-permutation}
use Rattle.root2_cost.specs.declared.Cost.{Cost}
use Rattle.root2_cost.specs.Sums.{no_cost}
use Rattle.cost_waves.specs.Begin.{IsLeastCost}
use Rattle.grid_moves.specs.declared.Cell.{Cell}
use Rattle.grid_moves.specs.Grid.{is_free, is_inside}
use Rattle.grid_moves.specs.Layers.{AreLayers, Layers, is_free_ground, is_on_map, query_grid}
use Rattle.grid_moves.specs.Reply.{are_free_ends}
use Rattle.grid_moves.proofs.Layering.{is_inside-water}
use Rattle.grid_moves.proofs.Legal.{and_both}
use Rattle.joined_cells.specs.Both.{HasWalk}
use Rattle.joined_cells.proofs.Layering.{joined_free, joined_in_one_layer}
use Rattle.plain_search.specs.Costs.{IsCostTo}
use Rattle.plain_search.proofs.LeastCosts.{cost_is}
use Rattle.problem_maker.specs.declared.sorting.Problem.{Problem}
use Rattle.grid_moves.specs.declared.ends.Ends.{Ends}
use Rattle.problem_maker.specs.Tries.{kept_of}
use Rattle.problem_maker.proofs.Drawn.{kept_walks}
use Rattle.problem_maker.proofs.Insertion.{order_is}
use Rattle.scen_lines.specs.Line.{version_line}
use Rattle.scen_maker.specs.Problems.{ProblemsCostLeast, line_on, priced, problems_status, scenario_on}
use Rattle.scen_maker.specs.Settling.{least_between}

module _ (ls : Layers) (are : AreLayers ls) where
  -- what is free on the grid of a query is free, and lies on the map
  free_there : (s c : Cell) → is_free (query_grid ls s) c ≡ true
      → (is_on_map ls c ≡ true) × (is_free_ground ls c ≡ true)
  free_there s c = by_water (is_free ls.water s)
    where
      or_true : (b : Bool) → (b || true) ≡ true
      or_true true = refl
      or_true false = refl

      by_water : (b : Bool) → is_free (if b then ls.water else ls.land) c ≡ true
          → (is_on_map ls c ≡ true) × (is_free_ground ls c ≡ true)
      by_water true f = (
        sym (is_inside-water ls are c) ∙ (and_both (is_inside ls.water c) _ f).0,
        ap (λ (b : Bool). is_free ls.land c || b) f ∙ or_true (is_free ls.land c),
      )
      by_water false f = (
        (and_both (is_inside ls.land c) _ f).0,
        ap (λ (b : Bool). b || is_free ls.water c) f,
      )

  -- both ends of a walk are so
  pub ends_inside : (s t : Cell) → HasWalk ls s t → (is_on_map ls s && is_on_map ls t) ≡ true
  ends_inside s t j =
      let both = and_both (is_free (query_grid ls s) s) (is_free (query_grid ls s) t)
      (joined_in_one_layer ls s t j) in
      ap (λ (b : Bool). b && is_on_map ls t) (free_there s s both.0).0 ∙ (free_there s t both.1).0

  pub ends_free : (s t : Cell) → HasWalk ls s t → are_free_ends ls s t ≡ true
  ends_free s t j =
      let both = and_both (is_free (query_grid ls s) s) (is_free (query_grid ls s) t)
      (joined_in_one_layer ls s t j) in
      ap (λ (b : Bool). b && is_free_ground ls t) (free_there s s both.0).1 ∙ (free_there s t both.1).1

-- joined cells have a least cost
module _ (ls : Layers) (s t : Cell) (walk : HasWalk ls s t) where
  is_least : (least : Option Cost) → IsCostTo (query_grid ls s) s t least
      → IsLeastCost (query_grid ls s) s t (unwrap_or least no_cost)
  is_least None none = absurd (none walk.cells walk.walk)
  is_least (Some cost) least = least

  tells : IsCostTo (query_grid ls s) s t (least_between ls s t)
  tells = cost_is (query_grid ls s) s t (joined_free (query_grid ls s) s t walk)

  pub has_least : IsLeastCost (query_grid ls s) s t (unwrap_or (least_between ls s t) no_cost)
  has_least = is_least (least_between ls s t) tells

  pub never_none : (least : Option Cost) → least ≡ least_between ls s t → least ≡ None → ⊥
  never_none least e none =
      subst (λ (o : Option Cost). IsCostTo (query_grid ls s) s t o) (sym e ∙ none) tells walk.cells walk.walk

-- so has each problem that a seed makes
pub problems_least : ProblemsCostLeast
problems_least ls seed count =
    All-permutation (λ p. IsLeastCost (query_grid ls p.ends.from) p.ends.from p.ends.to p.cost) _ _
    (order_is (map (priced ls) (kept_of ls seed count))).is.same
    (All-map (λ p. IsLeastCost (query_grid ls p.ends.from) p.ends.from p.ends.to p.cost) (priced ls)
    (kept_of ls seed count)
    (All-weaker (λ e. HasWalk ls e.from e.to)
    (λ e. IsLeastCost (query_grid ls e.from) e.from e.to (priced ls e).cost)
    (λ e walk. has_least ls e.from e.to walk) (kept_of ls seed count) (kept_walks ls seed count)))

-- one more of the ends has its problem
pub priced-more : (at ls : Layers) (kept : List Ends) (place : ℕ) (d : Ends)
    (problems now : List Problem) (p : Problem) → at ≡ ls → place < length kept
    → problems ≡ map (priced ls) (take place kept) → p ≡ priced at (get_or kept place d)
    → now ≡ problems ++ p ∷ [] → now ≡ map (priced ls) (take (place + 1) kept)
priced-more at ls kept place d problems now p same below are is grown =
    let ends : Ends = get_or kept place d in
    grown ∙ ap (λ (l : List Problem). l ++ p ∷ []) are
    ∙ ap (λ (q : Problem). map (priced ls) (take place kept) ++ q ∷ [])
    (is ∙ ap (λ (l : Layers). priced l ends) same)
    ∙ sym (map-append (priced ls) (take place kept) (ends ∷ []))
    ∙ ap (map (priced ls)) (sym (take_more kept place d below))

-- the lines of the first problems are written
pub scenario-more : (ls : Layers) (name : List ℕ) (problems : List Problem) (place : ℕ) (d : Problem)
    (text now : List ℕ) → place < length problems → text ≡ scenario_on ls name (take place problems)
    → now ≡ text ++ line_on ls name (get_or problems place d)
    → now ≡ scenario_on ls name (take (place + 1) problems)
scenario-more ls name problems place d text now below is adds =
    let p : Problem = get_or problems place d in
    adds ∙ ap (λ (l : List ℕ). l ++ line_on ls name p) is
    ∙ flat_map_more (line_on ls name) version_line (take place problems) p
    ∙ ap (scenario_on ls name) (sym (take_more problems place d below))

-- the status is 0 or 1
pub small_problems_status : (ls : Layers) (seed count : ℕ) → problems_status ls seed count ≤ 1
small_problems_status ls seed count = by_test (nat_eq (length (kept_of ls seed count)) count)
  where
    by_test : (b : Bool) → (if b then 0 else 1) ≤ 1
    by_test true = omega arith
    by_test false = omega arith
