-- What rings leave.
use Rattle.std.proofs.Common.{◌≡◌, ◌≢◌, ℕ, ◌+◌, ◌-◌, ◌<◌, ◌≤◌, ◌⊎◌, inl, inr, arith, refl, ap, sym, ◌∙◌}
use Rattle.std.proofs.Common.{subst, Bool, true, false, ◌&&◌}
use Rattle.std.specs.Prelude.{nat_eq, not, min, max, IsTrue}
use Rattle.std.proofs.lemmas.Bool.Decides.{nat_tests}
use Rattle.root2_cost.specs.declared.Cost.{Cost}
use Rattle.root2_cost.specs.Order.{IsAtMost, IsLess}
use Rattle.root2_cost.specs.Sums.{octile_cost}
use Rattle.root2_cost.proofs.AtMost.{at_most_by_counts, less_then_at_most}
use Rattle.grid_moves.specs.declared.Cell.{Cell}
use Rattle.grid_moves.specs.Grid.{GridData, is_free}
use Rattle.grid_moves.specs.Points.{apart, estimate, steps_between}
use Rattle.grid_moves.proofs.Legal.{same_cell}
use Rattle.joined_cells.specs.Joined.{IsJoined, Labels, TellsJoined, are_joined, label_of}
use Rattle.joined_cells.proofs.Joining.{joined_itself}
use Rattle.components.specs.Kept.{KeptLabels, Tells}
use Rattle.components.proofs.Storing.{IsOnMap, labelled_inside}
use Rattle.nearest_cell.specs.Nearest.{IsNearest, IsNoFarther}
use Rattle.nearest_cell.specs.Rings.{IsFirstOnRing, IsFirstWithin, is_nearer, lesser_side}
use Rattle.nearest_cell.proofs.Order.{no_farther_on, nearer_is, not_nearer}

-- a number that stands so far off another
sides : (m n k : ℕ) → apart m n ≡ k → (m ≡ n - k) ⊎ (m ≡ n + k)
sides m n k e = grind arith

module _ (p : Labels) (label : ℕ) (some : label ≢ 0) (goal : Cell) where
  on : (c : Cell) → label_of p c ≡ label → c.x < p.width
  on c e = (labelled_inside p c (λ z. some (sym e ∙ z))).column

  pub is_nearer-first : (c d : Cell) → label_of p c ≡ label → is_nearer goal c d ≡ true
      → IsNoFarther p.width goal c d
  is_nearer-first c d e h = nearer_is p.width goal c d (on c e) h

  pub not_nearer-first : (c d : Cell) → label_of p d ≡ label → is_nearer goal c d ≡ false
      → IsNoFarther p.width goal d c
  not_nearer-first c d e h = not_nearer p.width goal c d (on d e) h

-- the four cells that stand so far off
module _ (p : Labels) (label : ℕ) (goal : Cell) (dx dy left right up down : ℕ) (is_left : left ≡ goal.x - dx)
    (is_right : right ≡ goal.x + dx) (is_up : up ≡ goal.y - dy) (is_down : down ≡ goal.y + dy)
    (a b c e : Cell) (ba : IsNoFarther p.width goal b a) (cb : IsNoFarther p.width goal c b)
    (ec : IsNoFarther p.width goal e c)
    (met_a : label_of p (record { x = left; y = up }) ≡ label
    → IsNoFarther p.width goal a (record { x = left; y = up }))
    (met_b : label_of p (record { x = right; y = up }) ≡ label
    → IsNoFarther p.width goal b (record { x = right; y = up }))
    (met_c : label_of p (record { x = left; y = down }) ≡ label
    → IsNoFarther p.width goal c (record { x = left; y = down }))
    (met_e : label_of p (record { x = right; y = down }) ≡ label
    → IsNoFarther p.width goal e (record { x = right; y = down })) where
  eb : IsNoFarther p.width goal e b
  eb = no_farther_on p.width goal e c b ec cb

  at : (f d : Cell) → IsNoFarther p.width goal e f → (x y : ℕ) → d.x ≡ x → d.y ≡ y → label_of p d ≡ label
      → (label_of p (record { x = x; y = y }) ≡ label → IsNoFarther p.width goal f (record { x = x; y = y }))
      → IsNoFarther p.width goal e d
  at f d ef x y px py l met =
      let same : record { x = x; y = y } ≡ d = same_cell (record { x = x; y = y }) d (sym px) (sym py) in
      subst (λ (v : Cell). IsNoFarther p.width goal e v) same
      (no_farther_on p.width goal e f (record { x = x; y = y }) ef
      (met (ap (λ (v : Cell). label_of p v) same ∙ l)))

  pub four_met : (d : Cell) → label_of p d ≡ label → apart d.x goal.x ≡ dx → apart d.y goal.y ≡ dy
      → IsNoFarther p.width goal e d
  four_met d l h k = elim (sides d.x goal.x dx h) [
    | inl x ↦ elim (sides d.y goal.y dy k) [
      | inl y ↦ at a d (no_farther_on p.width goal e b a eb ba) left up (x ∙ sym is_left)
          (y ∙ sym is_up) l met_a
      | inr y ↦ at c d ec left down (x ∙ sym is_left) (y ∙ sym is_down) l met_c
    ]
    | inr x ↦ elim (sides d.y goal.y dy k) [
      | inl y ↦ at b d eb right up (x ∙ sym is_right) (y ∙ sym is_up) l met_b
      | inr y ↦ at e d (inr (refl, omega arith)) right down (x ∙ sym is_right) (y ∙ sym is_down) l met_e
    ]
  ]

-- a ring
module _ (p : Labels) (label : ℕ) (goal : Cell) (ring : ℕ) where
  less_or_same : (m n : ℕ) → m < n + 1 → (m < n) ⊎ (m ≡ n)
  less_or_same m n h = grind arith

  less_or_more : (m n : ℕ) → (m < n) ⊎ (n ≤ m)
  less_or_more m n = grind arith

  counts : (x y k : ℕ) → max x y ≡ ring → k ≤ min x y → IsAtMost (octile_cost ring k) (octile_cost x y)
  counts x y k h l = at_most_by_counts (octile_cost ring k) (octile_cost x y) (omega arith) (omega arith)

  -- it ends where its next cells are farther than the best one
  pub ring_stopped : (k : ℕ) (best : Cell) → IsFirstWithin p label goal ring best
      → IsFirstOnRing p label goal ring k best → IsLess (estimate best goal) (octile_cost ring k)
      → IsFirstWithin p label goal (ring + 1) best
  ring_stopped k best first here less d l h = elim (less_or_same (steps_between d goal) ring h) [
    | inl within ↦ first d l within
    | inr same ↦ elim (less_or_more (lesser_side d goal) k) [
      | inl low ↦ here d l same low
      | inr high ↦ inl (less_then_at_most (estimate best goal) (octile_cost ring k) (estimate d goal) less
          (counts (apart d.x goal.x) (apart d.y goal.y) k same high))
    ]
  ]

  -- or with its last cells
  pub ring_done : (k : ℕ) (best : Cell) → k ≡ ring + 1 → IsFirstWithin p label goal ring best
      → IsFirstOnRing p label goal ring k best → IsFirstWithin p label goal (ring + 1) best
  ring_done k best e first here d l h = elim (less_or_same (steps_between d goal) ring h) [
    | inl within ↦ first d l within
    | inr same ↦ here d l same (below (apart d.x goal.x) (apart d.y goal.y) same)
  ]
    where
      below : (x y : ℕ) → max x y ≡ ring → min x y < k
      below x y s = omega arith

  -- a nearer one is found
  pub within_kept : (best later : Cell) → IsNoFarther p.width goal later best
      → IsFirstWithin p label goal ring best → IsFirstWithin p label goal ring later
  within_kept best later kept first d l h = no_farther_on p.width goal later best d kept (first d l h)

  corners : (x y k : ℕ) → max x y ≡ ring → min x y < k + 1
      → (min x y < k) ⊎ (((x ≡ ring) × (y ≡ k)) ⊎ ((x ≡ k) × (y ≡ ring)))
  corners x y k h l = grind arith

  pub ring_more : (k : ℕ) (best mid later : Cell) → IsNoFarther p.width goal mid best
      → IsNoFarther p.width goal later mid → IsFirstOnRing p label goal ring k best
      → ((d : Cell) → label_of p d ≡ label → apart d.x goal.x ≡ ring → apart d.y goal.y ≡ k
      → IsNoFarther p.width goal mid d)
      → ((d : Cell) → label_of p d ≡ label → apart d.x goal.x ≡ k → apart d.y goal.y ≡ ring
      → IsNoFarther p.width goal later d)
      → IsFirstOnRing p label goal ring (k + 1) later
  ring_more k best mid later first second here wide high d l same low =
      elim (corners (apart d.x goal.x) (apart d.y goal.y) k same low) [
        | inl within ↦ no_farther_on p.width goal later mid d second
            (no_farther_on p.width goal mid best d first (here d l same within))
        | inr (inl at) ↦ no_farther_on p.width goal later mid d second (wide d l at.0 at.1)
        | inr (inr at) ↦ high d l at.0 at.1
      ]

-- all rings
module _ (p : Labels) (label : ℕ) (some : label ≢ 0) (goal : Cell) where
  -- those that are left are farther than the best cell
  pub rings_stopped : (ring : ℕ) (best : Cell) → IsFirstWithin p label goal ring best
      → IsLess (estimate best goal) (record { a = ring; b = 0 }) → (d : Cell) → label_of p d ≡ label
      → IsNoFarther p.width goal best d
  rings_stopped ring best first less d l = elim (order (steps_between d goal) ring) [
    | inl within ↦ first d l within
    | inr off ↦ inl (less_then_at_most (estimate best goal) (record { a = ring; b = 0 })
        (estimate d goal) less
        (counts (apart d.x goal.x) (apart d.y goal.y) off))
  ]
    where
      order : (m n : ℕ) → (m < n) ⊎ (n ≤ m)
      order m n = grind arith

      counts : (x y : ℕ) → ring ≤ max x y → IsAtMost (record { a = ring; b = 0 }) (octile_cost x y)
      counts x y h = at_most_by_counts (record { a = ring; b = 0 }) (octile_cost x y)
          (omega arith) (omega arith)

  -- or none is left
  pub rings_done : (ring : ℕ) (best : Cell) → ring ≡ max p.width p.height → goal.x
      < p.width → goal.y < p.height
      → IsFirstWithin p label goal ring best → (d : Cell) → label_of p d ≡ label
      → IsNoFarther p.width goal best d
  rings_done ring best e column row first d l =
      let o = labelled_inside p d (λ z. some (sym l ∙ z)) in
      first d l (within d.x d.y goal.x goal.y p.width p.height o.column o.row column row e)
    where
      within : (x y u v w h : ℕ) → x < w → y < h → u < w → v < h → ring ≡ max w h
          → max (apart x u) (apart y v) < ring
      within x y u v w h a b c f e = omega arith

-- what a grid says of it
pub nearest_told : (g : GridData) (p : KeptLabels) → Tells g p → p.fresh ≡ true → (start goal c : Cell)
    → is_free g start ≡ true → (label : ℕ) → label ≡ label_of p.labels start
    → (label ≢ 0 → (label_of p.labels c ≡ label)
    × ((d : Cell) → label_of p.labels d ≡ label → IsNoFarther p.labels.width goal c d))
    → IsNearest g start goal c
nearest_told g p tells fresh start goal c free label is says = record {
  joined = (told.joined start c).0 (test_of (label_of p.labels start) (label_of p.labels c) own.0
      (sym is ∙ sym both.0));
  first = λ d j. subst (λ (w : ℕ). IsNoFarther w goal c d) tells.made_for.width
      (both.1 d (sym (test_says (label_of p.labels start) (label_of p.labels d) ((told.joined start d).1 j)).1
      ∙ sym is));
}
  where
    told : TellsJoined g p.labels
    told = tells.joined fresh

    test_says : (m n : ℕ) → (not (nat_eq m 0) && nat_eq m n) ≡ true → (m ≢ 0) × (m ≡ n)
    test_says m n e = ((λ z. grind (arith, nat_tests)), grind (arith, nat_tests))

    test_of : (m n : ℕ) → m ≢ 0 → m ≡ n → (not (nat_eq m 0) && nat_eq m n) ≡ true
    test_of m n a e = grind (arith, nat_tests)

    own : (label_of p.labels start ≢ 0) × (label_of p.labels start ≡ label_of p.labels start)
    own = test_says (label_of p.labels start) (label_of p.labels start)
        ((told.joined start start).1 (joined_itself g start free))

    both : (label_of p.labels c ≡ label)
        × ((d : Cell) → label_of p.labels d ≡ label → IsNoFarther p.labels.width goal c d)
    both = says (λ z. own.0 (sym is ∙ z))
