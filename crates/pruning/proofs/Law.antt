-- Every walk has a canonical walk of no greater cost, where each turn that is not allowed has a replacement.
use Rattle.std.proofs.lemmas.Bool.Decides.{nat_tests}
use Rattle.std.proofs.lemmas.Grind.{common_steps}
use Rattle.std.proofs.Common.{arith, ◌≡◌, ◌⊎◌, inl, inr, refl, ap, sym, ◌∙◌, List, [], ◌∷◌, ◌++◌, subst, true}
use Rattle.std.specs.Prelude.{⊤}
use Rattle.root2_cost.specs.Sums.{add_costs}
use Rattle.root2_cost.proofs.AtMost.{IsAtMost-trans, same_at_most}
use Rattle.root2_cost.proofs.Most.{Most-then, Most-same, Most-add_left, Most-add_right}
use Rattle.grid_moves.specs.declared.Cell.{Cell}
use Rattle.grid_moves.specs.declared.Dir.{Dir}
use Rattle.grid_moves.specs.Grid.{GridData}
use Rattle.grid_moves.specs.Move.{is_legal, move_cost}
use Rattle.grid_moves.specs.Walk.{is_walk, cost_of, last_of}
use Rattle.grid_moves.proofs.Legal.{and_both}
use Rattle.grid_moves.proofs.Walks.{last-joined, walk-joined, cost-joined}
use Rattle.pruning.specs.declared.Arrival.TheVariants.{Start, By}
use Rattle.pruning.specs.Allowed.{is_allowed}
use Rattle.pruning.specs.Canonical.{FollowsRule, IsCanonicalWalk}
use Rattle.pruning.specs.Facts.{HasBetter, IsSmaller, TurnsAreReplaced}
use Rattle.pruning.specs.Laws.{CanonicalWalksSuffice, HasCanonicalWalk}
use Rattle.pruning.proofs.Table.{by_test}
use Rattle.pruning.proofs.Bridging.{Leads, leads_of, leads_can, leads_legal}
use Rattle.pruning.proofs.Joining.{IsSmaller-joined, IsSmaller-cons}
use Rattle.pruning.proofs.Smallest.{IsSmaller-induction}

module _ (replaced : TurnsAreReplaced) (g : GridData) where
  -- the two moves replaced, and the rest as it was
  put_in : (u v w : Cell) (cells : List Cell) → is_walk g (w ∷ cells) ≡ true
      → HasBetter g u w (v ∷ w ∷ []) → HasBetter g u (last_of w cells) (v ∷ w ∷ cells)
  put_in u v w cells h b = record {
    instead = b.instead ++ cells;
    walk = grind (arith, nat_tests, common_steps, walk-joined, last-joined);
    no_more = (Most-then (Most-same (cost-joined u b.instead cells
        ∙ ap (λ (c : Cell). add_costs (cost_of (u ∷ b.instead)) (cost_of (c ∷ cells))) b.walk.ends))
        (Most-then (Most-add_right (cost_of (w ∷ cells)) (cost_of (u ∷ b.instead)) (cost_of (u ∷ v ∷ w ∷ []))
        (record { is = b.no_more }))
        (Most-same (sym (cost-joined u (v ∷ w ∷ []) cells))))).is;
    smaller = IsSmaller-joined u b.instead (v ∷ w ∷ []) cells b.walk.ends b.smaller;
  }

  -- the first move as it was, and the rest replaced
  put_before : (u v t : Cell) (cells : List Cell) → is_legal g u v ≡ true → HasBetter g v t cells
      → HasBetter g u t (v ∷ cells)
  put_before u v t cells l b = record {
    instead = v ∷ b.instead;
    walk = record { legal = rw (l, b.walk.legal) refl; ends = b.walk.ends };
    no_more = (Most-add_left (move_cost u v) (cost_of (v ∷ b.instead)) (cost_of (v ∷ cells))
        (record { is = b.no_more })).is;
    smaller = IsSmaller-cons u v b.instead cells b.smaller;
  }

  -- a walk that begins with an allowed turn, or with one that is replaced
  by_turn : (u v w : Cell) (d e : Dir) (cells : List Cell) → Leads g u v d → Leads g v w e
      → is_walk g (w ∷ cells) ≡ true → FollowsRule g (By e) w cells
      → FollowsRule g Start u (v ∷ w ∷ cells) ⊎ HasBetter g u (last_of w cells) (v ∷ w ∷ cells)
  by_turn u v w d e cells l m h f = by_test (is_allowed g v (By d) e)
      (λ a. inl (
        d,
        record { leads = l.ahead_is; allowed = leads_can g u v d l },
        (e, record { leads = m.ahead_is; allowed = a }, f),
      ))
      (λ n. inr (put_in u v w cells h
      (replaced g u v w d e (leads_legal g u v d l) (leads_legal g v w e m) n)))

  -- a walk is canonical, or there is a better one
  improve : (cells : List Cell) (u : Cell) → is_walk g (u ∷ cells) ≡ true
      → FollowsRule g Start u cells ⊎ HasBetter g u (last_of u cells) cells
  improve [] u h = inl tt
  improve (v ∷ []) u h = grind (arith, nat_tests, common_steps, leads_of, and_both, leads_can)
  improve (v ∷ w ∷ cells) u h =
      let first = and_both (is_legal g u v) (is_walk g (v ∷ w ∷ cells)) h in
      let rest = and_both (is_legal g v w) (is_walk g (w ∷ cells)) first.1 in
      let l = leads_of g u v first.0 in
      elim (improve (w ∷ cells) v first.1) [
        | inl f ↦ by_turn u v w l.0 f.0 cells l.1 (record { ahead_is = f.1.leads; legal = rest.0 }) rest.1 f.2
        | inr b ↦ inr (put_before u v (last_of w cells) (w ∷ cells) first.0 b)
      ]

  -- what is shown of a walk
  abbrev IsSolved : List Cell → Type 0
  IsSolved [] = ⊤
  IsSolved (u ∷ cells) = is_walk g (u ∷ cells) ≡ true → HasCanonicalWalk g u (last_of u cells) cells

  solved : (ds : List Cell) → ((es : List Cell) → IsSmaller es ds → IsSolved es) → IsSolved ds
  solved [] next = tt
  solved (u ∷ cells) next = λ w. elim (improve cells u w) [
    | inl f ↦ record {
      others = cells;
      canonical = record { walk = record { legal = w; ends = refl }; pruned = f };
      no_more = same_at_most (cost_of (u ∷ cells)) (cost_of (u ∷ cells)) refl;
    }
    | inr b ↦ after b (next (u ∷ b.instead) b.smaller b.walk.legal)
  ]
    where
      after : (b : HasBetter g u (last_of u cells) cells)
          → HasCanonicalWalk g u (last_of u b.instead) b.instead
          → HasCanonicalWalk g u (last_of u cells) cells
      after b c = record {
        others = c.others;
        canonical = subst (λ (t : Cell). IsCanonicalWalk g u t c.others) b.walk.ends c.canonical;
        no_more = IsAtMost-trans (cost_of (u ∷ c.others)) (cost_of (u ∷ b.instead)) (cost_of (u ∷ cells))
            c.no_more b.no_more;
      }

-- the first law, from the first fact
pub canonical_from : TurnsAreReplaced → CanonicalWalksSuffice
canonical_from replaced g s t cells w = subst (λ (u : Cell). HasCanonicalWalk g s u cells) w.ends
    (IsSmaller-induction (IsSolved replaced g) (solved replaced g) (s ∷ cells) w.legal)
