-- Of the cells to which a walk leads, the first one of least estimate is the nearest.
use Rattle.std.proofs.Common.{◌≡◌, ℕ, zero, suc, ◌+◌, ◌*◌, ◌/◌, ◌%◌, ◌<◌, ◌≤◌, ◌⊎◌, inl, inr, arith, refl, ap}
use Rattle.std.proofs.Common.{sym, ◌∙◌, subst, Bool, true, false, ◌||◌, cond, List, [], ◌∷◌, length, map}
use Rattle.std.specs.Prelude.{⊤, ◌↔◌, IsTrue, if◌then◌else◌, slice_index_or}
use Rattle.std.specs.List.{All, Contains, filter, range_with_len}
use Rattle.std.proofs.Math.Nat.{div-add-mod}
use Rattle.std.proofs.lemmas.Bool.Decides.{nat_tests}
use Rattle.std.proofs.lemmas.List.Elements.{All-head, All-tail, All-weaker, filter_passes}
use Rattle.std.proofs.lemmas.List.FromFn.{get_or-map-range_with_len, length-map-range_with_len}
use Rattle.std.proofs.lemmas.Nat.{div-mul-add, mod-mul-add}
use Rattle.root2_cost.specs.Order.{is_less}
use Rattle.root2_cost.proofs.Less.{IsLess-total}
use Rattle.grid_moves.specs.declared.Cell.{Cell}
use Rattle.grid_moves.specs.Grid.{GridData, cell_number, cell_numbered, is_free, is_inside}
use Rattle.grid_moves.specs.Move.{is_same}
use Rattle.grid_moves.specs.Points.{estimate}
use Rattle.grid_moves.proofs.Legal.{free_inside, is_same-cell, is_same-itself, same_cell}
use Rattle.grid_moves.proofs.Places.{inside_below, inside_from, inside_is}
use Rattle.grid_moves.proofs.Walks.{end_free}
use Rattle.joined_cells.specs.Joined.{IsJoined}
use Rattle.joined_cells.proofs.Joining.{joined_itself}
use Rattle.nearest_cell.specs.Nearest.{IsNearest, IsNoFarther, first_nearest, grid_cells, nearer, nearest_in}
use Rattle.nearest_cell.specs.Nearest.{nearest_of}
use Rattle.nearest_cell.proofs.Order.{itself_first, no_farther_on}

-- members of a list
none_in : {A : Type 0} (d : Cell) → Contains [] d → A
none_in d m = absurd (let l = m.1 in omega arith)

later_member : (c d : Cell) (cells : List Cell) → Contains cells d → Contains (c ∷ cells) d
later_member c d cells m = (suc m.0, (let l = m.1 in omega arith), m.2)

member_of : (c d : Cell) (cells : List Cell) → Contains (c ∷ cells) d → (c ≡ d) ⊎ Contains cells d
member_of c d cells (zero, l, e) = inl e
member_of c d cells (suc k, l, e) = inr (k, omega arith, e)

kept_member : (test : Cell → Bool) (d : Cell) → test d ≡ true → (cells : List Cell) → Contains cells d
    → Contains (filter test cells) d
kept_member test d t [] m = none_in d m
kept_member test d t (c ∷ cells) m =
    by_test (kept_member test d t cells) (member_of c d cells m) (test c) refl
  where
    by_test : (Contains cells d → Contains (filter test cells) d) → (c ≡ d) ⊎ Contains cells d
        → (b : Bool) → test c ≡ b → Contains (cond b (c ∷ filter test cells) (filter test cells)) d
    by_test rest (inl same) true e = (0, omega arith, same)
    by_test rest (inl same) false e = absurd (let x : true ≡ false = sym t ∙ ap test (sym same) ∙ e in cc)
    by_test rest (inr later) true e = later_member c d (filter test cells) (rest later)
    by_test rest (inr later) false e = rest later

-- the cells of a grid
number_is : (width k : ℕ) → cell_number width (cell_numbered width k) ≡ k
number_is width k = by_sum (k / width) (k % width) (div-add-mod k width)
  where
    by_sum : (y x : ℕ) → width * y + x ≡ k → y * width + x ≡ k
    by_sum y x e = omega arith

grid_member : (g : GridData) (d : Cell) → is_inside g d ≡ true → Contains (grid_cells g) d
grid_member g d inside =
    let x = (inside_is g d inside).0 in
    let below = inside_below g d inside in
    let count = length-map-range_with_len (cell_numbered g.width) 0 (g.height * g.width) in (
      cell_number g.width d,
      omega (arith, count, below),
      get_or-map-range_with_len (cell_numbered g.width) 0 (g.height * g.width) (cell_number g.width d)
          (cell_number g.width d) d below (omega arith)
          ∙ same_cell (cell_numbered g.width (cell_number g.width d)) d (mod-mul-add d.y g.width d.x x)
          (div-mul-add d.y g.width d.x x),
    )

-- the numbers of a list's cells rise, from this one on
abbrev Rises : ℕ → ℕ → List Cell → Type 0
Rises width low [] = ⊤
Rises width low (c ∷ cells) = (low ≤ cell_number width c) × Rises width (cell_number width c + 1) cells

rises_from : (width low high : ℕ) (cells : List Cell) → low ≤ high → Rises width high cells
    → Rises width low cells
rises_from width low high [] l r = tt
rises_from width low high (c ∷ cells) l r = let h : high ≤ cell_number width c = r.0 in (omega arith, r.1)

kept_rise : (width : ℕ) (test : Cell → Bool) (cells : List Cell) (low : ℕ) → Rises width low cells
    → Rises width low (filter test cells)
kept_rise width test [] low r = tt
kept_rise width test (c ∷ cells) low r =
    by_test (kept_rise width test cells (cell_number width c + 1) r.1) (test c)
  where
    by_test : Rises width (cell_number width c + 1) (filter test cells) → (b : Bool)
        → Rises width low (cond b (c ∷ filter test cells) (filter test cells))
    by_test rest true = (r.0, rest)
    by_test rest false =
        let h : low ≤ cell_number width c = r.0 in
        rises_from width low (cell_number width c + 1) (filter test cells) (omega arith) rest

all_rise : (width n low : ℕ) → Rises width low (map (cell_numbered width) (range_with_len low n))
all_rise width zero low = tt
all_rise width (suc n) low =
    let e = number_is width low in (
      omega (arith, e),
      subst (λ (k : ℕ). Rises width (k + 1) (map (cell_numbered width) (range_with_len (low + 1) n))) (sym e)
          (all_rise width n (low + 1)),
    )

-- the nearer one of two is no farther than either
module _ (width : ℕ) (goal c d : Cell) where
  nearer_first : cell_number width c ≤ cell_number width d
      → (IsNoFarther width goal (nearer goal c d) c) × (IsNoFarther width goal (nearer goal c d) d)
  nearer_first h = by_test (is_less (estimate d goal) (estimate c goal)) refl
    where
      not_more : is_less (estimate d goal) (estimate c goal) ≡ false → IsNoFarther width goal c d
      not_more e = elim (IsLess-total (estimate c goal) (estimate d goal)) [
        | inl l ↦ inl l
        | inr (inl l) ↦ absurd (let t : is_less (estimate d goal) (estimate c goal) ≡ true = l in
            let x : true ≡ false = sym t ∙ e in cc)
        | inr (inr s) ↦ inr (s, h)
      ]

      by_test : (b : Bool) → is_less (estimate d goal) (estimate c goal) ≡ b
          → (IsNoFarther width goal (if b then d else c) c) × (IsNoFarther width goal (if b then d else c) d)
      by_test true e = (inl e, itself_first width goal d)
      by_test false e = (itself_first width goal c, not_more e)

  nearer_low : cell_number width c ≤ cell_number width d
      → cell_number width (nearer goal c d) ≤ cell_number width d + 1
  nearer_low h = by_test (is_less (estimate d goal) (estimate c goal))
    where
      by_test : (b : Bool) → cell_number width (if b then d else c) ≤ cell_number width d + 1
      by_test true = omega arith
      by_test false = omega arith

-- so is the first one of least estimate
module _ (width : ℕ) (goal : Cell) where
  first_of_all : (cells : List Cell) (c : Cell) → Rises width (cell_number width c) cells
      → (IsNoFarther width goal (first_nearest goal c cells) c)
      × ((d : Cell) → Contains cells d → IsNoFarther width goal (first_nearest goal c cells) d)
  unfolding first_nearest
  first_of_all [] c r = (itself_first width goal c, λ d m. none_in d m)
  first_of_all (e ∷ cells) c r =
      let two = nearer_first width goal c e r.0 in
      let rest = first_of_all cells (nearer goal c e)
      (rises_from width (cell_number width (nearer goal c e)) (cell_number width e + 1) cells
      (nearer_low width goal c e r.0) r.1) in
      let on = λ (d : Cell) (n : IsNoFarther width goal (nearer goal c e) d).
      no_farther_on width goal (first_nearest goal (nearer goal c e) cells) (nearer goal c e) d rest.0 n in (
        on c two.0,
        λ d m. elim (member_of e d cells m) [
          | inl same ↦ on d (subst (λ (x : Cell). IsNoFarther width goal (nearer goal c e) x) same two.1)
          | inr later ↦ rest.1 d later
        ],
      )

-- and what holds of all cells holds of it
first_kept : (P : Cell → Type 0) (goal : Cell) (cells : List Cell) (c : Cell) → P c → All P cells
    → P (first_nearest goal c cells)
unfolding first_nearest
first_kept P goal [] c p all = p
first_kept P goal (e ∷ cells) c p all =
    first_kept P goal cells (nearer goal c e) (one (is_less (estimate e goal) (estimate c goal)))
    (All-tail P e cells all)
  where
    one : (b : Bool) → P (if b then e else c)
    one true = All-head P e cells all
    one false = p

-- of all cells to which a walk leads
module _ (leads : Cell → Bool) (g : GridData) (s goal : Cell)
    (says : (c : Cell) → IsTrue (leads c) ↔ IsJoined g s c) (free : is_free g s ≡ true) where
  abbrev leads_there : Cell → Bool
  leads_there c = is_same s c || leads c

  joined : (c : Cell) → leads_there c ≡ true → IsJoined g s c
  joined c = by_test (is_same s c) refl
    where
      by_test : (b : Bool) → is_same s c ≡ b → (b || leads c) ≡ true → IsJoined g s c
      by_test true same t = subst (λ (d : Cell). IsJoined g s d) (is_same-cell s c same)
          (joined_itself g s free)
      by_test false same t = (says c).0 t

  leads-to : (c : Cell) → IsJoined g s c → leads_there c ≡ true
  leads-to c j = by_test (is_same s c)
    where
      by_test : (b : Bool) → (b || leads c) ≡ true
      by_test true = refl
      by_test false = (says c).1 j

  member : (c : Cell) → IsJoined g s c → Contains (filter leads_there (grid_cells g)) c
  member c j =
      let i = free_inside g c (end_free g s c j.cells j.walk) in
      kept_member leads_there c (leads-to c j) (grid_cells g) (grid_member g c (inside_from g c i.0 i.1))

  by_list : (cells : List Cell) → Rises g.width 0 cells → All (λ c. IsJoined g s c) cells
      → ((d : Cell) → IsJoined g s d → Contains cells d) → IsNearest g s goal (nearest_in goal s cells)
  by_list [] r all has = none_in s (has s (joined_itself g s free))
  by_list (c ∷ cells) r all has =
      let f = first_of_all g.width goal cells c
      (rises_from g.width (cell_number g.width c) (cell_number g.width c + 1) cells (omega arith) r.1) in
      record {
        joined = first_kept (λ d. IsJoined g s d) goal cells c (All-head (λ d. IsJoined g s d) c cells all)
            (All-tail (λ d. IsJoined g s d) c cells all);
        first = λ d j. elim (member_of c d cells (has d j)) [
          | inl same ↦ subst (λ (x : Cell). IsNoFarther g.width goal (first_nearest goal c cells) x) same f.0
          | inr later ↦ f.1 d later
        ];
      }

  pub nearest_of-first : IsNearest g s goal (nearest_of leads g s goal)
  unfolding nearest_of
  nearest_of-first = by_list (filter leads_there (grid_cells g))
      (kept_rise g.width leads_there (grid_cells g) 0 (all_rise g.width (g.height * g.width) 0))
      (All-weaker (λ c. leads_there c ≡ true) (λ c. IsJoined g s c) joined (filter leads_there (grid_cells g))
      (filter_passes leads_there (grid_cells g)))
      member
