-- A least walk comes to no cell twice, so it has fewer steps than the map has cells.
use Rattle.std.proofs.Common.{◌≡◌, ℕ, suc, ◌+◌, ◌*◌, ◌^◌, ◌<◌, ◌≤◌, arith, length, List, [], ◌∷◌, Bool, true}
use Rattle.std.proofs.Common.{false, ◌||◌, map, eqb, refl, ap, sym, subst, mul-le-mul}
use Rattle.std.specs.List.{IsDistinct, AllByRecursion, list_any}
use Rattle.std.proofs.lemmas.Map.Steps.{length-le_from_distinct_below}
use Rattle.std.proofs.lemmas.Bool.{ne_eqb}
use Rattle.std.proofs.lemmas.Bool.Decides.{nat_tests}
use Rattle.root2_cost.specs.Order.{IsAtMost, IsLess}
use Rattle.root2_cost.proofs.AtMost.{IsAtMost-refl, IsAtMost-trans, IsAtMost-not_more, at_most_then_less}
use Rattle.root2_cost.proofs.Sums.{IsAtMost-cancel_left, IsAtMost-more_left, IsLess-more_left}
use Rattle.grid_moves.specs.declared.Cell.{Cell}
use Rattle.grid_moves.specs.Grid.{GridData, IsGrid, cell_number, is_free}
use Rattle.grid_moves.specs.Move.{is_legal, move_cost}
use Rattle.grid_moves.specs.Walk.{IsLeastWalk, IsWalk, cost_of, is_walk}
use Rattle.grid_moves.proofs.Legal.{and_both, free_inside}
pub use Rattle.grid_moves.proofs.Walks.{move_counts, steps-cost_of, walk_free}
use Rattle.grid_moves.proofs.Places.{free_below, one_cell}

-- a walk costs more than what is left of it after its first move
more_left : (s v : Cell) (cells : List Cell) → IsLess (cost_of (v ∷ cells)) (cost_of (s ∷ v ∷ cells))
more_left s v cells =
    let one : (move_cost s v).a + (move_cost s v).b ≡ 1 = move_counts s v in
    IsLess-more_left (move_cost s v) (cost_of (v ∷ cells)) (omega arith)

-- the way from s to t is not left by a walk from s to t at no more cost
NoneFrom : GridData → Cell → Cell → Cell → List Cell → Type 0
NoneFrom g s t v cells =
    (others : List Cell) → IsWalk g s t others → IsAtMost (cost_of (s ∷ others)) (cost_of (v ∷ cells)) → ⊥

-- a walk that s cannot cut short does not begin at s
first_apart : (g : GridData) (s t v : Cell) (cells : List Cell) → is_free g s ≡ true → IsWalk g v t cells
    → NoneFrom g s t v cells → eqb (cell_number g.width s) (cell_number g.width v) ≡ false
unfolding NoneFrom
first_apart g s t v cells free w none_from = ne_eqb (cell_number g.width s) (cell_number g.width v) (λ e.
    let its_free : is_free g v ≡ true = walk_free g v cells w.legal in
    let one : s ≡ v = one_cell g.width s v (free_inside g s free).0 (free_inside g v its_free).0 e in
    none_from cells (subst (λ (c : Cell). IsWalk g c t cells) (sym one) w)
    (subst (λ (c : Cell). IsAtMost (cost_of (c ∷ cells)) (cost_of (v ∷ cells))) (sym one)
    (IsAtMost-refl (cost_of (v ∷ cells)))))

-- nor does it come to s
all_apart : (g : GridData) (s t v : Cell) (cells : List Cell) → is_free g s ≡ true → IsWalk g v t cells
    → NoneFrom g s t v cells
    → AllByRecursion (λ n. eqb (cell_number g.width s) n ≡ false) (map (cell_number g.width) (v ∷ cells))
unfolding NoneFrom
all_apart g s t v [] free w none_from = (first_apart g s t v [] free w none_from, tt)
all_apart g s t v (d ∷ cells) free w none_from = (
  first_apart g s t v (d ∷ cells) free w none_from,
  all_apart g s t d cells free
      (record { legal = (and_both (is_legal g v d) (is_walk g (d ∷ cells)) w.legal).1; ends = w.ends })
      (λ others o most. none_from others o
      (IsAtMost-trans (cost_of (s ∷ others)) (cost_of (d ∷ cells)) (cost_of (v ∷ d ∷ cells)) most
      (IsAtMost-more_left (move_cost v d) (cost_of (d ∷ cells))))),
)

-- what is left of a least walk after its first move is least
pub least_rest : (g : GridData) (s t v : Cell) (cells : List Cell) → IsLeastWalk g s t (v ∷ cells)
    → IsLeastWalk g v t cells
least_rest g s t v cells l =
    let parts = and_both (is_legal g s v) (is_walk g (v ∷ cells)) l.walk.legal in
    record {
      walk = record { legal = parts.1; ends = l.walk.ends };
      least = λ others o. IsAtMost-cancel_left (move_cost s v) (cost_of (v ∷ cells)) (cost_of (v ∷ others))
          (l.least (v ∷ others) (record { legal = rw (parts.0, o.legal) refl; ends = o.ends }));
    }

-- a least walk comes to no cell twice
pub least_distinct : (g : GridData) (s t : Cell) (cells : List Cell) → IsLeastWalk g s t cells
    → IsDistinct eqb (map (cell_number g.width) (s ∷ cells))
unfolding IsDistinct NoneFrom
least_distinct g s t [] l = (tt, tt)
least_distinct g s t (v ∷ cells) l =
    let rest = least_rest g s t v cells l in (
      all_apart g s t v cells (walk_free g s (v ∷ cells) l.walk.legal) rest.walk (λ others o most.
          IsAtMost-not_more (cost_of (s ∷ v ∷ cells)) (cost_of (s ∷ others)) (l.least others o)
          (at_most_then_less (cost_of (s ∷ others)) (cost_of (v ∷ cells)) (cost_of (s ∷ v ∷ cells)) most
          (more_left s v cells))),
      least_distinct g v t cells rest,
    )

-- a number of a walk's cell is that of its first cell, or of one of the rest
in_rest : (g : GridData) (s : Cell) (cells : List Cell) → is_walk g (s ∷ cells) ≡ true → (q : ℕ)
    → (list_any (eqb q) (map (cell_number g.width) cells) ≡ true → q < g.height * g.width)
    → list_any (eqb q) (map (cell_number g.width) (s ∷ cells)) ≡ true → q < g.height * g.width
in_rest g s cells w q rest h = by_test (eqb q (cell_number g.width s)) refl h
  where
    first : cell_number g.width s < g.height * g.width
    first = free_below g s (walk_free g s cells w)

    by_test : (b : Bool) → eqb q (cell_number g.width s) ≡ b
        → (b || list_any (eqb q) (map (cell_number g.width) cells)) ≡ true → q < g.height * g.width
    by_test true e h = let same : q ≡ cell_number g.width s = grind (arith, nat_tests) in rw same first
    by_test false e h = rest h

-- the cells of a walk have numbers below the number of all cells
numbers_below : (g : GridData) (s : Cell) (cells : List Cell) → is_walk g (s ∷ cells) ≡ true → (q : ℕ)
    → list_any (eqb q) (map (cell_number g.width) (s ∷ cells)) ≡ true → q < g.height * g.width
numbers_below g s [] w q h = in_rest g s [] w q (λ e. absurd (cc)) h
numbers_below g s (v ∷ cells) w q h =
    let parts = and_both (is_legal g s v) (is_walk g (v ∷ cells)) w in
    in_rest g s (v ∷ cells) w q (numbers_below g v cells parts.1 q) h

length-map : {X : Type 0} (f : X → ℕ) (xs : List X) → length (map f xs) ≡ length xs
length-map f [] = refl
length-map f (x ∷ xs) = ap (λ n. suc n) (length-map f xs)

-- a least walk has fewer steps than the map has cells
pub least_steps : (g : GridData) (s t : Cell) (cells : List Cell) → IsLeastWalk g s t cells
    → length cells < g.height * g.width
least_steps g s t cells l =
    let most : length (map (cell_number g.width) (s ∷ cells)) ≤ g.height * g.width
    = length-le_from_distinct_below (map (cell_number g.width) (s ∷ cells)) (g.height * g.width)
    (least_distinct g s t cells l) (numbers_below g s cells l.walk.legal) in
    let same : length (map (cell_number g.width) (s ∷ cells)) ≡ suc (length cells)
    = length-map (cell_number g.width) (s ∷ cells) in
    omega arith

-- a map has at most 2^24 cells
pub few_cells : (g : GridData) → IsGrid g → g.height * g.width ≤ 2 ^ 24
few_cells g grid =
    let most : g.height * g.width ≤ 4096 * 4096 = mul-le-mul grid.sides.low grid.sides.narrow in
    omega arith

-- so a least walk has fewer than 2^24 steps
pub least_is_short : (g : GridData) (s t : Cell) (cells : List Cell) → IsGrid g → IsLeastWalk g s t cells
    → length cells < 2 ^ 24
least_is_short g s t cells grid l =
    let fewer : length cells < g.height * g.width = least_steps g s t cells l in
    let few : g.height * g.width ≤ 2 ^ 24 = few_cells g grid in
    omega arith
