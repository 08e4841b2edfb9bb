-- When no cell waits, known ranks are those of least walks, and stored directions those of their first moves.
use Rattle.std.proofs.lemmas.Bool.{cases_Bool}
use Rattle.std.proofs.Common.{◌≡◌, ℕ, ◌+◌, ◌*◌, ◌^◌, ◌<◌, ◌≤◌, inl, inr, arith, refl, ap, sym, ◌∙◌, subst}
use Rattle.std.proofs.Common.{Bool, true, false, List, [], ◌∷◌}
use Rattle.std.specs.Prelude.{Some, None, nat_lt, if◌then◌else◌}
use Rattle.std.proofs.lemmas.Bool.{cases_lt}
use Rattle.std.proofs.lemmas.Bool.Decides.{nat_tests}
use Rattle.std.proofs.lemmas.Option.{slice_get_within}
use Rattle.root2_cost.specs.declared.Cost.{Cost}
use Rattle.root2_cost.specs.Laws.{HasShortParts}
use Rattle.root2_cost.specs.Order.{IsLess, IsAtMost}
use Rattle.root2_cost.specs.Rank.{rank_of, cost_of_rank}
use Rattle.root2_cost.proofs.AtMost.{IsAtMost-cases, IsAtMost-or_more, IsAtMost-not_more, at_most_by_counts}
use Rattle.root2_cost.proofs.Ranking.{less_ranks}
use Rattle.grid_moves.specs.declared.Cell.{Cell}
use Rattle.grid_moves.specs.declared.Dir.{Dir}
use Rattle.grid_moves.specs.Grid.{GridData, IsGrid, is_inside}
use Rattle.grid_moves.specs.Move.{is_legal, legal_ahead}
use Rattle.grid_moves.specs.Walk.{IsWalk, IsLeastWalk, is_walk, cost_of, last_of}
use Rattle.grid_moves.proofs.Ahead.{legal_ahead-of, legal_ahead-is}
use Rattle.grid_moves.proofs.Legal.{and_both, legal_is}
use Rattle.cost_waves.specs.Begin.{IsCostTo, Begins}
use Rattle.cost_waves.specs.Front.{Front, dir_rank}
use Rattle.cost_waves.specs.Rank.{rank_limit}
use Rattle.cost_waves.specs.Stored.{has_dir, Tells}
use Rattle.cost_waves.specs.Wave.{rank_at, dirs_at, Among, Held, before, in_now, in_next, in_after, Keeps}
use Rattle.cost_waves.specs.Wave.{IsSettled, IsSwept, ended}
use Rattle.root2_cost.proofs.Decoding.{cost-rank}
use Rattle.root2_cost.proofs.Differences.{rank-add_costs}
use Rattle.cost_waves.proofs.Keeping.{few}
use Rattle.grid_moves.proofs.Places.{free_on, on_inside}
use Rattle.cost_waves.proofs.Walks.{rank-move, rank_high}

-- a cost of a small rank has few moves
short_by_rank : (c : Cost) → rank_of c < 2 ^ 58 → HasShortParts c
short_by_rank c h = record { straight = omega arith; diagonal = omega arith }

-- a cost that is less than one of a small rank has few moves too
short_below : (p q : Cost) → rank_of q < 2 ^ 58 → IsLess p q → HasShortParts p
short_below p q h l = elim (cases_lt (p.a + p.b) (2 * (q.a + q.b))) [
  | inl few ↦ record { straight = omega arith; diagonal = omega arith }
  | inr many ↦ absurd (IsAtMost-not_more q p (at_most_by_counts q p (omega arith) (omega arith)) l)
]

-- of ranks and costs of which one is small
at_most_by_rank : (p q : Cost) → rank_of p < 2 ^ 58 → rank_of p ≤ rank_of q → IsAtMost p q
at_most_by_rank p q h l = elim (IsAtMost-or_more p q) [
  | inl a ↦ a
  | inr b ↦ absurd (let r = less_ranks q p (short_below q p h b) b in omega arith)
]

rank_at_most : (p q : Cost) → rank_of q < 2 ^ 58 → IsAtMost p q → rank_of p ≤ rank_of q
rank_at_most p q h1 h2 = grind (arith, nat_tests, IsAtMost-cases, less_ranks, short_below)

module _ (g : GridData) (s : Cell) (whole : IsGrid g) (ranks firsts : List ℕ)
    (w : IsSwept g s ranks firsts) where
  abbrev f : Front
  f = ended ranks firsts

  k : Keeps g s w.floor [] f
  k = w.ready.keeps

  none_in : (c : Cell) → Among [] c → ⊥
  none_in c a = let p = slice_get_within [] a.place c a.is in omega arith

  -- a known cell has offered all its moves
  all_settled : (u : Cell) → is_inside g u ≡ true → rank_at g ranks u < rank_limit → IsSettled g s f u
  all_settled u i h = by_held (k.held u i h)
    where
      by_held : Held w.floor [] [] [] u (rank_at g ranks u) → IsSettled g s f u
      by_held (before l) = w.ready.settled u i l
      by_held (in_now l a) = absurd (none_in u a)
      by_held (in_next p l a) = absurd (none_in u a)
      by_held (in_after p l a) = absurd (none_in u a)

  -- known ranks are small
  small : (u : Cell) → is_inside g u ≡ true → rank_at g ranks u < rank_limit → rank_at g ranks u < 2 ^ 57
  small u i h = let b = k.bounded u i h in let m = few g whole f k.ranked in omega arith

  -- the rank of a walk that goes on
  rank-on : (u v : Cell) (d : Dir) (cells : List Cell) → legal_ahead g u d ≡ Some v
      → rank_of (cost_of (u ∷ v ∷ cells)) ≡ dir_rank d + rank_of (cost_of (v ∷ cells))
  rank-on u v d cells h1 = grind (arith, cases_Bool, rank-add_costs, rank-move)

  inside_ahead : (u v : Cell) → is_legal g u v ≡ true → is_inside g v ≡ true
  inside_ahead u v l = on_inside g v (free_on g v (legal_is g u v l).target)

  -- where a walk from a known cell ends
  record Reached (u v : Cell) (cost : Cost) : Type 0 where
    pub inside : is_inside g v ≡ true
    pub known : rank_at g ranks v < rank_limit
    pub most : rank_at g ranks v ≤ rank_at g ranks u + rank_of cost

  -- over one move
  over : (u v : Cell) (d : Dir) → legal_ahead g u d ≡ Some v → is_inside g u ≡ true
      → rank_at g ranks u < rank_limit → rank_at g ranks v < rank_limit
  over u v d e i h =
      let r = all_settled u i h d v e in
      let low = r.low in
      let m = small u i h in
      let q = rank_high d in
      omega arith

  reached : (u : Cell) (cells : List Cell) → is_walk g (u ∷ cells) ≡ true → is_inside g u ≡ true
      → rank_at g ranks u < rank_limit → Reached u (last_of u cells) (cost_of (u ∷ cells))
  reached u [] t i h = record { inside = i; known = h; most = omega arith }
  reached u (v ∷ cells) t i h =
      let parts = and_both (is_legal g u v) (is_walk g (v ∷ cells)) t in
      let d = legal_ahead-of g u v parts.0 in
      let known = over u v d.0 d.1 i h in
      let rest = reached v cells parts.1 (inside_ahead u v parts.0) known in
      let low = (all_settled u i h d.0 v d.1).low in
      let e = rank-on u v d.0 cells d.1 in
      let m = rest.most in
      record { inside = rest.inside; known = rest.known; most = omega arith }

  home : is_inside g s ≡ true
  home = on_inside g s (free_on g s k.home)

  known_start : rank_at g ranks s < rank_limit
  known_start = let z = k.start in omega arith

  from_start : (t : Cell) (cells : List Cell) → IsWalk g s t cells → Reached s t (cost_of (s ∷ cells))
  from_start t cells walk =
      subst (λ (v : Cell). Reached s v (cost_of (s ∷ cells))) walk.ends
      (reached s cells walk.legal home known_start)

  -- a walk of the known rank is a least one
  is_least : (t : Cell) (cells : List Cell) → is_inside g t ≡ true → rank_at g ranks t < rank_limit
      → IsWalk g s t cells → rank_of (cost_of (s ∷ cells)) ≡ rank_at g ranks t → IsLeastWalk g s t cells
  is_least t cells i h walk e = record {
    walk = walk;
    least = λ others other.
        let m = (from_start t others other).most in
        let z = k.start in
        let l = small t i h in
        at_most_by_rank (cost_of (s ∷ cells)) (cost_of (s ∷ others)) (omega arith) (omega arith);
  }

  -- and a least walk has the known rank
  least_rank : (t : Cell) (cells : List Cell) → is_inside g t ≡ true → rank_at g ranks t < rank_limit
      → IsLeastWalk g s t cells → rank_of (cost_of (s ∷ cells)) ≤ rank_at g ranks t
  least_rank t cells i h least =
      let way = k.ways t i h in
      let e = way.ranked in
      let l = small t i h in
      let m = rank_at_most (cost_of (s ∷ cells)) (cost_of (s ∷ way.cells)) (omega arith)
      (least.least way.cells way.walk) in
      omega arith

  cost_is : (t : Cell) → is_inside g t ≡ true → (b : Bool) → nat_lt (rank_at g ranks t) rank_limit ≡ b
      → IsCostTo g s t (if b then Some (cost_of_rank (rank_at g ranks t)) else None)
  cost_is t i true e =
      let h : rank_at g ranks t < rank_limit = grind (arith, nat_tests) in
      let way = k.ways t i h in
      let l = small t i h in
      let r = way.ranked in
      record {
        cells = way.cells;
        least = is_least t way.cells i h way.walk way.ranked;
        priced = sym (cost-rank (cost_of (s ∷ way.cells)) (short_by_rank (cost_of (s ∷ way.cells))
            (omega arith)))
            ∙ ap cost_of_rank way.ranked;
      }
  cost_is t i false e = λ cells walk.
      let r = (from_start t cells walk).known in
      let h : rank_limit ≤ rank_at g ranks t = grind (arith, nat_tests) in
      omega arith

  -- a stored direction begins a least walk
  stored_begins : (t : Cell) (d : Dir) → is_inside g t ≡ true → has_dir (dirs_at g firsts t) d ≡ true
      → Begins g s t d
  stored_begins t d i e =
      let way = k.begins t d i e in
      record {
        next = way.next;
        ahead = way.ahead;
        cells = way.cells;
        least = is_least t (way.next ∷ way.cells) i (k.dirs_reached t d i e) way.walk way.ranked;
      }

  -- along a walk on which no rank is saved, directions are handed on
  handed_on : (d : Dir) (u : Cell) (cells : List Cell) → is_walk g (u ∷ cells) ≡ true → is_inside g u ≡ true
      → rank_at g ranks u < rank_limit
      → rank_at g ranks u + rank_of (cost_of (u ∷ cells)) ≤ rank_at g ranks (last_of u cells)
      → has_dir (dirs_at g firsts u) d ≡ true → has_dir (dirs_at g firsts (last_of u cells)) d ≡ true
  handed_on d u [] t i h q has = has
  handed_on d u (v ∷ cells) t i h q has =
      let parts = and_both (is_legal g u v) (is_walk g (v ∷ cells)) t in
      let a = legal_ahead-of g u v parts.0 in
      let known = over u v a.0 a.1 i h in
      let inside = inside_ahead u v parts.0 in
      let rest = (reached v cells parts.1 inside known).most in
      let r = all_settled u i h a.0 v a.1 in
      let low = r.low in
      let e = rank-on u v a.0 cells a.1 in
      handed_on d v cells parts.1 inside known (omega arith) (r.same d (omega arith) has)

  -- the first move of a least walk is stored
  begins_stored : (t : Cell) (d : Dir) → is_inside g t ≡ true → Begins g s t d
      → has_dir (dirs_at g firsts t) d ≡ true
  begins_stored t d i b =
      let walk = b.least.walk in
      let end = from_start t (b.next ∷ b.cells) walk in
      let most = least_rank t (b.next ∷ b.cells) i end.known b.least in
      let legal = legal_ahead-is g s b.next d b.ahead in
      let parts = and_both (is_legal g s b.next) (is_walk g (b.next ∷ b.cells)) walk.legal in
      let inside = inside_ahead s b.next legal in
      let known = over s b.next d b.ahead home known_start in
      let r = all_settled s home known_start d b.next b.ahead in
      let low = r.low in
      let e = rank-on s b.next d b.cells b.ahead in
      let z = k.start in
      let rest : rank_at g ranks t ≤ rank_at g ranks b.next + rank_of (cost_of (b.next ∷ b.cells)) =
      subst (λ (v : Cell). rank_at g ranks v ≤ rank_at g ranks b.next + rank_of (cost_of (b.next ∷ b.cells)))
      walk.ends (reached b.next b.cells parts.1 inside known).most in
      let tight : rank_at g ranks b.next + rank_of (cost_of (b.next ∷ b.cells)) ≤ rank_at g ranks
      (last_of b.next b.cells) =
      subst (λ (v : Cell). rank_at g ranks b.next + rank_of (cost_of (b.next ∷ b.cells)) ≤ rank_at g ranks v)
      (sym walk.ends) (omega arith) in
      subst (λ (v : Cell). has_dir (dirs_at g firsts v) d ≡ true) walk.ends
      (handed_on d b.next b.cells parts.1 inside known tight (r.own refl (omega arith)))

  pub tells : (width height : ℕ) → width ≡ g.width
      → Tells g s (record { width = width; height = height; ranks = ranks; firsts = firsts })
  tells width height e = subst (λ (n : ℕ). Tells g s
      (record { width = n; height = height; ranks = ranks; firsts = firsts }))
      (sym e) (record {
        costs = λ t i. cost_is t i (nat_lt (rank_at g ranks t) rank_limit) refl;
        firsts = λ t d i. (stored_begins t d i, begins_stored t d i);
      })
