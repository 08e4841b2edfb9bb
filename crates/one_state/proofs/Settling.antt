-- Along a run the sums never fall, so no taken cell is offered at less.
use Rattle.std.proofs.Common.{◌≡◌, ◌⊎◌, inl, inr, refl, ap, sym, ◌∙◌, subst, true, false, Bool, List, [], ◌∷◌}
use Rattle.std.proofs.Common.{arith, map}
use Rattle.std.proofs.lemmas.Bool.Decides.{nat_tests}
use Rattle.std.proofs.lemmas.Grind.{common_steps}
use Rattle.root2_cost.specs.declared.Cost.{Cost}
use Rattle.root2_cost.specs.declared.Signed.{Signed}
use Rattle.root2_cost.specs.Signed.{signed_of, add_signed}
use Rattle.root2_cost.proofs.Most.{Most}
use Rattle.grid_moves.specs.declared.Cell.{Cell}
use Rattle.grid_moves.specs.declared.Dir.{Dir}
use Rattle.grid_moves.specs.Grid.{GridData, is_free}
use Rattle.grid_moves.specs.Move.{is_same}
use Rattle.grid_moves.proofs.Legal.{and_both, is_same-cell, is_same-itself, legal_is}
use Rattle.pruning.specs.declared.Arrival.{Arrival}
use Rattle.pruning.specs.Allowed.{is_allowed}
use Rattle.pruning.specs.Chain.{run_cost}
use Rattle.pruning.specs.Explored.{Reached, IsOneOf, HopsTo, AreReached}
use Rattle.pruning.specs.Explored as explored
use Rattle.pruning.proofs.Bridging.{leads_from}
use Rattle.pruning.proofs.Running.{IsRun, run_walked}
use Rattle.one_state.specs.Search.{Search, IsSound, Taken, begins, as_reached, Offers, IsIn, here, there}
use Rattle.one_state.specs.Search.{HasCell, IsOffered, sum_of, IsNext, begun, further}
use Rattle.one_state.specs.Search as search
use Rattle.one_state.proofs.Sums.{Below, Below-then, Below-same, Below-add_left, Below-cancel_right, to_costs}
use Rattle.one_state.proofs.Sums.{signed_sum, add_signed-assoc}
use Rattle.one_state.proofs.Estimates.{falls_along}

-- what holds of the first one and of each of the rest holds of each
pub each_of : (P : Taken → Type 0) (x : Taken) (earlier : List Taken) → P x
    → ((u : Taken) → IsIn u earlier → P u) → (u : Taken) → IsIn u (x ∷ earlier) → P u
each_of P _ _ h rest u (here _) = h
each_of P _ _ h rest u (there _ _ m) = rest u m

pub no_member : (u : Taken) → IsIn u [] → ⊥
no_member u m = elim m [ ]

-- a cell is that of one of these, or of none
pub cell_or_none : (all : List Taken) (v : Cell) → HasCell all v ⊎ (¬ HasCell all v)
cell_or_none [] v = inr (λ h. no_member h.by h.member)
cell_or_none (x ∷ all) v = by_test (is_same x.state.cell v) refl (cell_or_none all v)
  where
    by_test : (b : Bool) → is_same x.state.cell v ≡ b → HasCell all v ⊎ (¬ HasCell all v)
        → HasCell (x ∷ all) v ⊎ (¬ HasCell (x ∷ all) v)
    by_test true e rest = inl (record { by = x; member = here all; is = is_same-cell x.state.cell v e })
    by_test false e (inl h) = inl (record { by = h.by; member = there x all h.member; is = h.is })
    by_test false e (inr n) = inr (λ h. each_of (λ u. u.state.cell ≡ v → ⊥) x all (apart e)
        (λ u m at. n (record { by = u; member = m; is = at })) h.by h.member h.is)
      where
        apart : is_same x.state.cell v ≡ false → x.state.cell ≡ v → ⊥
        apart f e =
            let same = subst (λ (y : Cell). is_same x.state.cell y ≡ true) e (is_same-itself x.state.cell) in
            absurd (cc)

-- an offer without parents
pub hops_of : (p : Search) (u x : Taken) → Offers p u x → HopsTo p.grid p.goal (as_reached u) (as_reached x)
hops_of p u x o = record { dir = o.dir; moves = o.moves; hop = o.hop; priced = o.priced }

pub is_reached : (all : List Taken) (u : Taken) → IsIn u all → IsOneOf (as_reached u) (map as_reached all)
is_reached [] u m = elim m [ ]
is_reached (x ∷ earlier) u (here e) = explored.here (map as_reached earlier)
is_reached (x ∷ earlier) u (there z e m) =
    explored.there (as_reached x) (map as_reached earlier) (is_reached earlier u m)

pub record WasTaken (all : List Taken) (w : Reached) : Type 0 where
  pub by : Taken
  pub member : IsIn by all
  pub is : as_reached by ≡ w

pub was_taken : (all : List Taken) (w : Reached) → IsOneOf w (map as_reached all) → WasTaken all w
was_taken [] w m = elim m [ ]
was_taken (x ∷ earlier) w (explored.here e) = record { by = x; member = here earlier; is = refl }
was_taken (x ∷ earlier) w (explored.there z e m) =
    let t = was_taken earlier w m in record { by = t.by; member = there x earlier t.member; is = t.is }

-- an allowed direction leads on from a free cell
allowed_free : (g : GridData) (x : Cell) (by : Arrival) (d : Dir) → is_allowed g x by d ≡ true
    → is_free g x ≡ true
allowed_free g x by d a = grind (arith, nat_tests, common_steps, and_both, leads_from, legal_is)

-- the moves of an offer as a walk
pub offer_walked : (p : Search) (u x : Taken) (o : Offers p u x)
    → IsRun p.grid o.dir o.moves u.state.cell x.state.cell
offer_walked p u x o = run_walked p.grid o.dir o.moves u.state.cell x.state.cell
    (allowed_free p.grid u.state.cell u.state.arrival o.dir o.hop.allowed) o.hop.reached

-- of two at one cell the one of the lesser sum costs no more
same_place : (p : Search) (x y : Taken) → x.state.cell ≡ y.state.cell → Below (sum_of p x) (sum_of p y)
    → Most x.cost y.cost
same_place p x y e m = to_costs x.cost y.cost
    (Below-cancel_right (p.estimate y.state.cell) (signed_of x.cost) (signed_of y.cost)
    (subst (λ (c : Cell). Below (add_signed (signed_of x.cost) (p.estimate c)) (sum_of p y)) e m))

-- no offer has a lesser sum than who offers it
sum_rises : (p : Search) → IsSound p → (u x : Taken) → Offers p u x → Below (sum_of p u) (sum_of p x)
sum_rises p sound u x o =
    let run = offer_walked p u x o in
    let legs : Signed = signed_of (run_cost o.dir o.moves) in
    let left : Signed = p.estimate x.state.cell in
    let falls : Below (p.estimate u.state.cell) (add_signed legs left) =
    subst (λ (c : Cost). Below (p.estimate u.state.cell) (add_signed (signed_of c) left)) run.priced
    (falls_along p.grid p.goal p.estimate sound.consistent u.state.cell x.state.cell run.cells
    (record { legal = run.walks; ends = run.ends })) in
    Below-then (Below-add_left (signed_of u.cost) (p.estimate u.state.cell) (add_signed legs left) falls)
    (Below-same (sym (add_signed-assoc (signed_of u.cost) legs left)
    ∙ ap (λ (q : Signed). add_signed q left) (sym (signed_sum u.cost (run_cost o.dir o.moves)))
    ∙ ap (λ (c : Cost). add_signed (signed_of c) left) (sym o.priced)))

module _ (p : Search) (sound : IsSound p) where
  -- the cell is that of one of these, at no more than this
  pub record HasAt (all : List Taken) (v : Cell) (bound : Cost) : Type 0 where
    pub by : Taken
    pub member : IsIn by all
    pub is : by.state.cell ≡ v
    pub most : Most by.cost bound

  -- what is offered is among them at no more, or its cell waits, at a sum of no less than that of the latest
  abbrev pub IsKept : Taken → List Taken → Taken → Type 0
  IsKept x all y =
      HasAt all y.state.cell y.cost ⊎ ((¬ HasCell all y.state.cell) × Below (sum_of p x) (sum_of p y))

  pub record AreKept (x : Taken) (earlier : List Taken) : Type 0 where
    pub rises : (u : Taken) → IsIn u (x ∷ earlier) → Below (sum_of p u) (sum_of p x)
    pub offers : (u y : Taken) → IsIn u (x ∷ earlier) → Offers p u y → IsKept x (x ∷ earlier) y

  -- what the latest offers
  by_latest : (x y : Taken) (earlier : List Taken)
      → ((u : Taken) → IsIn u (x ∷ earlier) → Below (sum_of p u) (sum_of p x)) → Offers p x y
      → IsKept x (x ∷ earlier) y
  by_latest x y earlier rises o =
      let m = sum_rises p sound x y o in
      elim (cell_or_none (x ∷ earlier) y.state.cell) [
        | inl h ↦ inl (record {
          by = h.by;
          member = h.member;
          is = h.is;
          most = same_place p h.by y h.is (Below-then (rises h.by h.member) m);
        })
        | inr n ↦ inr (n, m)
      ]

  -- what an earlier one offered
  by_earlier : (w x y u : Taken) (before : List Taken) → IsNext p (w ∷ before) x → IsIn u (w ∷ before)
      → Offers p u y → IsKept w (w ∷ before) y → IsKept x (x ∷ w ∷ before) y
  by_earlier w x y u before o m l (inl r) = inl
      (record { by = r.by; member = there x (w ∷ before) r.member; is = r.is; most = r.most })
  by_earlier w x y u before o m l (inr n) =
      let least : Below (sum_of p x) (sum_of p y) =
      record { is = o.least y (record { by = u; member = m; offers = l; fresh = n.0 }) } in
      elim (cell_or_none (x ∷ w ∷ before) y.state.cell) [
        | inl h ↦ each_of (λ u. u.state.cell ≡ y.state.cell → IsKept x (x ∷ w ∷ before) y) x (w ∷ before)
            (λ at. inl (record {
              by = x;
              member = here (w ∷ before);
              is = at;
              most = same_place p x y at least;
            })) (λ u k at. absurd (n.0 (record { by = u; member = k; is = at }))) h.by h.member h.is
        | inr k ↦ inr (k, least)
      ]

  -- with one more of a sum that none before exceeds
  with_latest : (x : Taken) (earlier : List Taken)
      → ((u : Taken) → IsIn u earlier → Below (sum_of p u) (sum_of p x))
      → ((u : Taken) → IsIn u earlier → (y : Taken) → Offers p u y → IsKept x (x ∷ earlier) y)
      → AreKept x earlier
  with_latest x earlier below kept =
      let rises = each_of (λ u. Below (sum_of p u) (sum_of p x)) x earlier (Below-same refl) below in
      record {
        rises = rises;
        offers = λ u y m. each_of (λ v. (z : Taken) → Offers p v z → IsKept x (x ∷ earlier) z) x earlier
            (λ z. by_latest x z earlier rises) kept u m y;
      }

  pub are_kept : (x : Taken) (earlier : List Taken) → search.IsRun p (x ∷ earlier) → AreKept x earlier
  are_kept _ _ begun =
      with_latest (begins p) [] (λ u m. absurd (no_member u m)) (λ u m. absurd (no_member u m))
  are_kept _ _ (further x [] r n o) = elim r [ ]
  are_kept _ _ (further x (w ∷ before) r n o) =
      let k = are_kept w before r in
      let last : Below (sum_of p w) (sum_of p x) =
      elim (k.offers o.offered.by x o.offered.member o.offered.offers) [
        | inl h ↦ absurd (o.offered.fresh (record { by = h.by; member = h.member; is = h.is }))
        | inr m ↦ m.1
      ] in
      with_latest x (w ∷ before) (λ u m. Below-then (k.rises u m) last)
      (λ u m y l. by_earlier w x y u before o m l (k.offers u y m l))

  pub are_reached : (taken : List Taken) → search.IsRun p taken
      → AreReached p.grid p.goal p.start (map as_reached taken)
  are_reached _ begun = explored.begun
  are_reached _ (further x earlier r n o) =
      explored.further (as_reached x) (as_reached o.offered.by) (map as_reached earlier)
      (are_reached earlier r) (is_reached earlier o.offered.by o.offered.member)
      (hops_of p o.offered.by x o.offered.offers)

  -- of each cell at most one is taken
  abbrev IsAlone : List Taken → Taken → Type 0
  IsAlone all u = (v : Taken) → IsIn v all → u.state.cell ≡ v.state.cell → u ≡ v

  pub one_each : (taken : List Taken) → search.IsRun p taken → (u : Taken) → IsIn u taken → IsAlone taken u
  one_each _ begun = each_of (IsAlone (begins p ∷ [])) (begins p) []
      (each_of (λ v. p.start ≡ v.state.cell → begins p ≡ v) (begins p) [] (λ e. refl)
      (λ v m. absurd (no_member v m)))
      (λ u m. absurd (no_member u m))
  one_each _ (further x earlier r n o) =
      each_of (IsAlone (x ∷ earlier)) x earlier
      (each_of (λ v. x.state.cell ≡ v.state.cell → x ≡ v) x earlier (λ e. refl)
      (λ v m e. absurd (o.offered.fresh (record { by = v; member = m; is = sym e }))))
      (λ u k. each_of (λ v. u.state.cell ≡ v.state.cell → u ≡ v) x earlier
      (λ e. absurd (o.offered.fresh (record { by = u; member = k; is = e })))
      (λ v m e. one_each earlier r u k v m e))

  -- so a taken cell is not offered at less
  pub settled : (taken : List Taken) (x u y : Taken) → search.IsRun p taken → IsIn x taken → IsIn u taken
      → Offers p u y → y.state.cell ≡ x.state.cell → Most x.cost y.cost
  settled [] x u y r m k o e = absurd (no_member x m)
  settled (z ∷ earlier) x u y r m k o e = elim ((are_kept z earlier r).offers u y k o) [
    | inl h ↦
        let one = one_each (z ∷ earlier) r h.by h.member x m (h.is ∙ e) in
        subst (λ (w : Taken). Most w.cost y.cost) one h.most
    | inr n ↦ absurd (n.0 (record { by = x; member = m; is = sym e }))
  ]
