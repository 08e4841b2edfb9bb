-- A rectangle grows by one cell, and a scan by one place.
use Rattle.std.proofs.Common.{◌≡◌, ◌≤◌, ◌<◌, ◌+◌, ◌⊎◌, inl, inr, ℕ, true, refl, ap, sym, ◌∙◌, subst, arith}
use Rattle.std.proofs.Common.{[], ◌∷◌}
use Rattle.std.specs.Prelude.{nat_lt, Option, Some, None, if◌then◌else◌}
use Rattle.std.proofs.lemmas.Bool.{cases_lt}
use Rattle.std.proofs.lemmas.Bool.Decides.{nat_tests}
use Rattle.grid_moves.specs.declared.Cell.{Cell}
use Rattle.grid_moves.specs.declared.Dir.{Dir}
use Rattle.grid_moves.specs.declared.Dir.TheVariants.{N, NE, E, SE, S, SW, W, NW}
use Rattle.grid_moves.specs.Grid.{GridData, is_inside, is_free}
use Rattle.grid_moves.proofs.Legal.{same_cell, free_inside}
use Rattle.grid_moves.proofs.Walks.{end_free}
use Rattle.grid_moves.proofs.Places.{inside_from}
use Rattle.cost_waves.specs.Begin.{Begins}
use Rattle.cost_waves.specs.Stored.{WaveData, begins_with, Tells}
use Rattle.goal_boxes.specs.declared.area.Area.{Area}
use Rattle.goal_boxes.specs.Box.{IsAreaOf, IsBox, IsLeastArea, box_in, holds, widened, with_cell}
use Rattle.goal_boxes.specs.Wide.{Scanned, IsReached, Met, NoneReached, IsFirstReached, IsLastReached}

-- what it is to lie in a rectangle
pub record LiesIn (a : Area) (c : Cell) : Type 0 where
  pub left : a.x0 ≤ c.x
  pub right : c.x ≤ a.x1
  pub above : a.y0 ≤ c.y
  pub below : c.y ≤ a.y1

pub lies_in : (a : Area) (c : Cell) → holds a c ≡ true → LiesIn a c
lies_in a c h = record {
  left = grind (arith, nat_tests);
  right = grind (arith, nat_tests);
  above = grind (arith, nat_tests);
  below = grind (arith, nat_tests);
}

pub is_held : (a : Area) (c : Cell) → LiesIn a c → holds a c ≡ true
is_held a c h1 = grind (arith, nat_tests)

-- the lesser and the greater of two numbers
record IsLesser (m n k : ℕ) : Type 0 where
  pub first : k ≤ m
  pub second : k ≤ n
  pub greatest : (l : ℕ) → l ≤ m → l ≤ n → l ≤ k

record IsGreater (m n k : ℕ) : Type 0 where
  pub first : m ≤ k
  pub second : n ≤ k
  pub least : (l : ℕ) → m ≤ l → n ≤ l → k ≤ l

lesser : (m n : ℕ) → IsLesser m n (if nat_lt m n then m else n)
lesser m n = record {
  first = grind (arith, nat_tests);
  second = grind (arith, nat_tests);
  greatest = λ l p q. grind (arith, nat_tests);
}

greater : (m n : ℕ) → IsGreater m n (if nat_lt m n then n else m)
greater m n = record {
  first = grind (arith, nat_tests);
  second = grind (arith, nat_tests);
  least = λ l p q. grind (arith, nat_tests);
}

less_or_same : (m n : ℕ) → m < n + 1 → (m < n) ⊎ (m ≡ n)
less_or_same m n h = elim (cases_lt m n) [ inl less ↦ inl less | inr more ↦ inr (omega arith) ]

module _ (P Q : Cell → Type 0) (more : (c : Cell) → P c → Q c) (new : Cell) (is_new : Q new)
    (either : (c : Cell) → Q c → (P c) ⊎ (c ≡ new)) where
  pub grown : (found : Option Area) → IsAreaOf P found → IsAreaOf Q (Some (widened found new))
  grown None none = record {
    some = new;
    is_one = is_new;
    all = λ c q. elim (either c q) [
      | inl p ↦ absurd (none c p)
      | inr e ↦ is_held (widened None new) c (subst (λ (k : Cell). LiesIn (widened None new) k) (sym e)
          (record { left = omega arith; right = omega arith; above = omega arith; below = omega arith }))
    ];
    least = λ b held. let l = lies_in b new (held new is_new) in
        record { left = l.left; above = l.above; right = l.right; below = l.below };
  }
  grown (Some a) area = record {
    some = new;
    is_one = is_new;
    all = λ c q. is_held (with_cell a new) c (by_kind c (either c q));
    least = λ b held.
        let l = lies_in b new (held new is_new) in
        let w = area.least b (λ c p. held c (more c p)) in
        record {
          left = (lesser new.x a.x0).greatest b.x0 l.left w.left;
          above = (lesser new.y a.y0).greatest b.y0 l.above w.above;
          right = (greater a.x1 new.x).least b.x1 w.right l.right;
          below = (greater a.y1 new.y).least b.y1 w.below l.below;
        };
  }
    where
      by_kind : (c : Cell) → (P c) ⊎ (c ≡ new) → LiesIn (with_cell a new) c
      by_kind c (inl p) =
          let l = lies_in a c (area.all c p) in
          let x0 = (lesser new.x a.x0).second in
          let y0 = (lesser new.y a.y0).second in
          let x1 = (greater a.x1 new.x).first in
          let y1 = (greater a.y1 new.y).first in
          let left = l.left in
          let right = l.right in
          let above = l.above in
          let below = l.below in
          record { left = omega arith; right = omega arith; above = omega arith; below = omega arith }
      by_kind c (inr e) = subst (λ (k : Cell). LiesIn (with_cell a new) k) (sym e) (record {
        left = (lesser new.x a.x0).first;
        right = (greater a.x1 new.x).second;
        above = (lesser new.y a.y0).first;
        below = (greater a.y1 new.y).second;
      })

-- of the same cells
pub same_area : (P Q : Cell → Type 0) → ((c : Cell) → P c → Q c) → ((c : Cell) → Q c → P c)
    → (found : Option Area) → IsAreaOf P found → IsAreaOf Q found
same_area P Q to back None none = λ c q. none c (back c q)
same_area P Q to back (Some a) area = record {
  some = area.some;
  is_one = to area.some area.is_one;
  all = λ c q. area.all c (back c q);
  least = λ b held. area.least b (λ c p. held c (to c p));
}

module _ (width : ℕ) (P : Cell → Type 0) where
  -- one place more: a cell of the kind, or of another
  abbrev pub cell : ℕ → ℕ → Cell
  cell y x = record { x = x; y = y }

  more_scanned : (y x : ℕ) (c : Cell) → Scanned width P y x c → Scanned width P y (x + 1) c
  more_scanned y x c s = record {
    column = s.column;
    kind = s.kind;
    before = elim s.before [ inl h ↦ inl h | inr h ↦ inr (h.0, (let l = h.1 in omega arith)) ];
  }

  -- what is met at one place more was met, or is the cell there
  met_or_here : (y x : ℕ) (c : Cell) → Scanned width P y (x + 1) c → (Scanned width P y x c) ⊎ (c ≡ cell y x)
  met_or_here y x c h1 = grind (arith, nat_tests, less_or_same, same_cell)

  pub one_of_kind : (y x : ℕ) → x < width → P (cell y x) → (found : Option Area)
      → IsAreaOf (Scanned width P y x) found
      → IsAreaOf (Scanned width P y (x + 1)) (Some (widened found (cell y x)))
  one_of_kind y x h t = grown (Scanned width P y x) (Scanned width P y (x + 1)) (more_scanned y x) (cell y x)
      (record { column = h; kind = t; before = inr (refl, omega arith) }) (met_or_here y x)

  pub one_of_other : (y x : ℕ) → (P (cell y x) → ⊥) → (found : Option Area)
      → IsAreaOf (Scanned width P y x) found → IsAreaOf (Scanned width P y (x + 1)) found
  one_of_other y x f = same_area (Scanned width P y x) (Scanned width P y (x + 1)) (more_scanned y x)
      (λ c s. elim (met_or_here y x c s) [
        | inl p ↦ p
        | inr e ↦ absurd (f (subst (λ (k : Cell). P k) e s.kind))
      ])

  -- a whole row
  next_row : (y x : ℕ) (c : Cell) → Scanned width P y x c → Scanned width P (y + 1) 0 c
  next_row y x c s = record {
    column = s.column;
    kind = s.kind;
    before = inl (elim s.before [ inl h ↦ omega arith | inr h ↦ (let e = h.0 in omega arith) ]);
  }

  -- what is met in a row more was met, or it lies in the row
  met_or_in_row : (y : ℕ) (c : Cell) → Scanned width P (y + 1) 0 c → (c.y < y) ⊎ (c.y ≡ y)
  met_or_in_row y c h1 = grind (arith, nat_tests, less_or_same)

  pub row_scanned : (y : ℕ) (found : Option Area) → IsAreaOf (Scanned width P y width) found
      → IsAreaOf (Scanned width P (y + 1) 0) found
  row_scanned y = same_area (Scanned width P y width) (Scanned width P (y + 1) 0) (next_row y width)
      (λ c s. record {
        column = s.column;
        kind = s.kind;
        before = elim (met_or_in_row y c s) [ inl less ↦ inl less | inr same ↦ inr (same, s.column) ];
      })

  -- before any row
  pub none_scanned : IsAreaOf (Scanned width P 0 0) None
  none_scanned c s = elim s.before [ inl h ↦ omega arith | inr h ↦ (let l = h.1 in omega arith) ]

module _ (w : WaveData) (d : Dir) where
  reached_at : (y : ℕ) (c : Cell) → c.y ≡ y → IsReached w d c
      → begins_with w (record { x = c.x; y = y }) d ≡ true
  reached_at y c e t = ap (λ (n : ℕ). begins_with w (record { x = c.x; y = n }) d) (sym e) ∙ t

  -- a row in which no cell is reached adds nothing
  pub row_unreached : (y : ℕ) → NoneReached w d y 0 w.width → (found : Option Area)
      → IsAreaOf (Met w d y 0) found → IsAreaOf (Met w d (y + 1) 0) found
  row_unreached y none = same_area (Met w d y 0) (Met w d (y + 1) 0) (next_row w.width (IsReached w d) y 0)
      (λ c s. record {
        column = s.column;
        kind = s.kind;
        before = elim (met_or_in_row w.width (IsReached w d) y c s) [
          | inl less ↦ inl less
          | inr same ↦ absurd (
              let reached = reached_at y c same s.kind in
              let unreached = none c.x (omega arith) s.column in
              cc)
        ];
      })

  -- of another one its first cell and its last cell are enough
  module _ (y first last : ℕ) (f : IsFirstReached w d y first) (l : IsLastReached w d y first last) where
    abbrev at_first : Cell
    at_first = record { x = first; y = y }

    abbrev at_last : Cell
    at_last = record { x = last; y = y }

    -- seen before, or one of these two
    abbrev With : Cell → Type 0
    With c = (Met w d y 0 c) ⊎ (c ≡ at_first)

    abbrev WithBoth : Cell → Type 0
    WithBoth c = With c ⊎ (c ≡ at_last)

    first_seen : Met w d (y + 1) 0 at_first
    first_seen = record { column = f.within; kind = f.reached; before = inl (omega arith) }

    last_seen : Met w d (y + 1) 0 at_last
    last_seen = record { column = l.within; kind = l.reached; before = inl (omega arith) }

    -- the cells of the row lie between the two
    between : (c : Cell) → c.y ≡ y → c.x < w.width → IsReached w d c → (first ≤ c.x) × (c.x ≤ last)
    between c h1 h2 h3 = grind (arith, nat_tests, cases_lt, reached_at)

    pub row_reached : (found : Option Area) → IsAreaOf (Met w d y 0) found
        → IsAreaOf (Met w d (y + 1) 0) (Some (with_cell (widened found at_first) at_last))
    row_reached found area =
        let one = grown (Met w d y 0) With (λ c s. inl s) at_first (inr refl) (λ c h. h) found area in
        let a : Area = with_cell (widened found at_first) at_last in
        let two : IsLeastArea WithBoth a =
        grown With WithBoth (λ c s. inl s) at_last (inr refl) (λ c h. h)
        (Some (widened found at_first)) one in
        record {
          some = at_last;
          is_one = last_seen;
          all = λ c s. elim (met_or_in_row w.width (IsReached w d) y c s) [
            | inl less ↦ two.all c (inl
                (inl (record { column = s.column; kind = s.kind; before = inl less })))
            | inr same ↦ in_row a two c s same
          ];
          least = λ b held. two.least b (λ c h. elim h [
            | inl (inl s) ↦ held c (next_row w.width (IsReached w d) y 0 c s)
            | inl (inr e) ↦ subst (λ (k : Cell). holds b k ≡ true) (sym e) (held at_first first_seen)
            | inr e ↦ subst (λ (k : Cell). holds b k ≡ true) (sym e) (held at_last last_seen)
          ]);
        }
      where
        in_row : (a : Area) → IsLeastArea WithBoth a → (c : Cell) → Met w d (y + 1) 0 c → c.y ≡ y
            → holds a c ≡ true
        in_row a two c s e =
            let p = between c e s.column s.kind in
            let low = p.0 in
            let high = p.1 in
            let u = lies_in a at_first (two.all at_first (inl (inr refl))) in
            let v = lies_in a at_last (two.all at_last (inr refl)) in
            let left = u.left in
            let right = v.right in
            let above = u.above in
            let below = u.below in
            is_held a c (record {
              left = omega arith;
              right = omega arith;
              above = omega arith;
              below =
                  omega arith;
            })

-- where some least walk ends is free
pub end_of_walk : (g : GridData) (u t : Cell) (d : Dir) → Begins g u t d → is_free g t ≡ true
end_of_walk g u t d b = end_free g u t (b.next ∷ b.cells) b.least.walk

-- what was seen when all rows were is what begins so
pub all_seen : (g : GridData) (u : Cell) (w : WaveData) → w.width ≡ g.width → w.height ≡ g.height
    → Tells g u w
    → (d : Dir) (found : Option Area) → IsAreaOf (Met w d w.height 0) found → IsBox g u d found
all_seen g u w wide high tells d = same_area (Met w d w.height 0) (λ t. Begins g u t d)
    (λ c s. (tells.firsts c d (inside c s)).0 s.kind)
    (λ c b.
    let i = free_inside g c (end_of_walk g u c d b) in
    let x = i.0 in
    let y = i.1 in
    record {
      column = omega arith;
      kind = (tells.firsts c d (inside_from g c x y)).1 b;
      before = inl (omega arith);
    })
  where
    inside : (c : Cell) → Met w d w.height 0 c → is_inside g c ≡ true
    inside c s =
        let x = s.column in
        inside_from g c (omega arith) (elim s.before [
          | inl h ↦ omega arith
          | inr h ↦ absurd (let l = h.1 in omega arith)
        ])

-- a box for each direction
pub each_dir : (P : Dir → Option Area → Type 0) {n ne e se s sw w nw : Option Area} → P N n → P NE ne → P E e
    → P SE se → P S s → P SW sw → P W w → P NW nw → (d : Dir)
    → P d (box_in (record { areas = n ∷ ne ∷ e ∷ se ∷ s ∷ sw ∷ w ∷ nw ∷ [] }) d)
each_dir P n ne e se s sw w nw N = n
each_dir P n ne e se s sw w nw NE = ne
each_dir P n ne e se s sw w nw E = e
each_dir P n ne e se s sw w nw SE = se
each_dir P n ne e se s sw w nw S = s
each_dir P n ne e se s sw w nw SW = sw
each_dir P n ne e se s sw w nw W = w
each_dir P n ne e se s sw w nw NW = nw
