-- The order of cells by their estimates, and by their numbers.
use Rattle.std.proofs.Common.{◌≡◌, ◌≢◌, ℕ, ◌+◌, ◌*◌, ◌<◌, ◌≤◌, ◌⊎◌, inl, inr, arith, refl, ap, sym, ◌∙◌}
use Rattle.std.proofs.Common.{subst, Bool, true, false, ◌&&◌, ◌||◌}
use Rattle.std.specs.Prelude.{nat_eq, nat_lt}
use Rattle.std.proofs.lemmas.Bool.Decides.{nat_tests}
use Rattle.root2_cost.specs.declared.Cost.{Cost}
use Rattle.root2_cost.specs.Order.{IsLess, is_less}
use Rattle.root2_cost.specs.Sums.{is_same_cost}
use Rattle.root2_cost.proofs.Less.{IsLess-asymmetric, IsLess-irreflexive, IsLess-total, IsLess-trans}
use Rattle.root2_cost.proofs.Less.{is_same_cost-of, is_same_cost-tells}
use Rattle.grid_moves.specs.declared.Cell.{Cell}
use Rattle.grid_moves.specs.Grid.{cell_number}
use Rattle.grid_moves.specs.Points.{estimate}
use Rattle.grid_moves.proofs.Legal.{and_both}
use Rattle.grid_moves.proofs.Places.{number_below}
use Rattle.nearest_cell.specs.Nearest.{IsNoFarther}
use Rattle.nearest_cell.specs.Rings.{is_nearer}

module _ (width : ℕ) (goal : Cell) where
  pub itself_first : (c : Cell) → IsNoFarther width goal c c
  itself_first c = inr (refl, omega arith)

  pub no_farther_on : (a b c : Cell) → IsNoFarther width goal a b → IsNoFarther width goal b c
      → IsNoFarther width goal a c
  no_farther_on a b c (inl l) (inl m) = inl
      (IsLess-trans (estimate a goal) (estimate b goal) (estimate c goal) l m)
  no_farther_on a b c (inl l) (inr e) = inl (subst (λ (k : Cost). IsLess (estimate a goal) k) e.0 l)
  no_farther_on a b c (inr e) (inl m) = inl (subst (λ (k : Cost). IsLess k (estimate c goal)) (sym e.0) m)
  no_farther_on a b c (inr e) (inr f) = inr (
    e.0 ∙ f.0,
    at_most (cell_number width a) (cell_number width b)
        (cell_number width c) e.1 f.1,
  )
    where
      at_most : (m n k : ℕ) → m ≤ n → n ≤ k → m ≤ k
      at_most m n k h l = omega arith

  number_at_most : (x y u v : ℕ) → x < width → (y < v) ⊎ ((y ≡ v) × (x ≤ u)) → y * width + x ≤ v * width + u
  number_at_most x y u v h (inl less) =
      let b : y * width + x < v * width = number_below width v (record { x = x; y = y }) h less in
      omega arith
  number_at_most x y u v h (inr same) =
      let e : y ≡ v = same.0 in
      let le : x ≤ u = same.1 in
      let m : y * width ≡ v * width = ap (λ (n : ℕ). n * width) e in
      omega arith

  module _ (c d : Cell) where
    abbrev by_place : Bool
    by_place = nat_lt c.y d.y || nat_eq c.y d.y && nat_lt c.x d.x

    before : (x y u v : ℕ) → (nat_lt y v || nat_eq y v && nat_lt x u) ≡ true
        → (y < v) ⊎ ((y ≡ v) × (x ≤ u))
    before x y u v h = by_test (nat_lt y v) refl h
      where
        less : (m n : ℕ) → nat_lt m n ≡ true → m < n
        less m n e = grind (arith, nat_tests)

        same : (m n : ℕ) → nat_eq m n ≡ true → m ≡ n
        same m n e = grind (arith, nat_tests)

        by_test : (b : Bool) → nat_lt y v ≡ b → (b || nat_eq y v && nat_lt x u) ≡ true
            → (y < v) ⊎ ((y ≡ v) × (x ≤ u))
        by_test true e h = inl (less y v e)
        by_test false e h =
            let two = and_both (nat_eq y v) (nat_lt x u) h in
            let l : x < u = less x u two.1 in
            inr (same y v two.0, omega arith)

    behind : (x y u v : ℕ) → (nat_lt y v || nat_eq y v && nat_lt x u) ≡ false
        → (v < y) ⊎ ((v ≡ y) × (u ≤ x))
    behind x y u v h = by_order (order y v)
      where
        order : (m n : ℕ) → (n < m) ⊎ ((m ≡ n) ⊎ (m < n))
        order m n = grind arith

        not_less : (y v : ℕ) → y < v → (nat_lt y v || nat_eq y v && nat_lt x u) ≡ false → ⊥
        not_less y v l h = grind (arith, nat_tests)

        at_most : (y v x u : ℕ) → y ≡ v → (nat_lt y v || nat_eq y v && nat_lt x u) ≡ false → u ≤ x
        at_most y v x u e h = grind (arith, nat_tests)

        by_order : (v < y) ⊎ ((y ≡ v) ⊎ (y < v)) → (v < y) ⊎ ((v ≡ y) × (u ≤ x))
        by_order (inl l) = inl l
        by_order (inr (inl e)) = inr (sym e, at_most y v x u e h)
        by_order (inr (inr l)) = absurd (not_less y v l h)

    pub nearer_is : c.x < width → is_nearer goal c d ≡ true → IsNoFarther width goal c d
    nearer_is h e = by_test (is_less (estimate c goal) (estimate d goal)) refl e
      where
        by_test : (b : Bool) → is_less (estimate c goal) (estimate d goal) ≡ b
            → (b || is_same_cost (estimate c goal) (estimate d goal) && by_place) ≡ true
            → IsNoFarther width goal c d
        by_test true l e = inl l
        by_test false l e =
            let two = and_both (is_same_cost (estimate c goal) (estimate d goal)) by_place e in
            inr (
              is_same_cost-tells (estimate c goal) (estimate d goal) two.0,
              number_at_most c.x c.y d.x d.y h (before c.x c.y d.x d.y two.1),
            )

    pub not_nearer : d.x < width → is_nearer goal c d ≡ false → IsNoFarther width goal d c
    not_nearer h e = elim (IsLess-total (estimate c goal) (estimate d goal)) [
      | inl l ↦ absurd (let t : is_less (estimate c goal) (estimate d goal) ≡ true = l in
          let x : true ≡ false = sym (rw t refl) ∙ e in cc)
      | inr (inl l) ↦ inl l
      | inr (inr s) ↦ inr (sym s, number_at_most d.x d.y c.x c.y h (behind c.x c.y d.x d.y (place s)))
    ]
      where
        none : (a b : Bool) → (a || b) ≡ false → b ≡ false
        none true b e = absurd (let x : true ≡ false = e in cc)
        none false b e = e

        place : estimate c goal ≡ estimate d goal → by_place ≡ false
        place s =
            let t : is_same_cost (estimate c goal) (estimate d goal) ≡ true
            = is_same_cost-of (estimate c goal) (estimate d goal) s in
            let two : (is_same_cost (estimate c goal) (estimate d goal) && by_place) ≡ false
            = none (is_less (estimate c goal) (estimate d goal))
            (is_same_cost (estimate c goal) (estimate d goal) && by_place) e in
            rw t at two
