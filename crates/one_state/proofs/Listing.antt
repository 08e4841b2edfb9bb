-- The list of what is offered has exactly that.
use Rattle.std.proofs.Common.{◌≡◌, ◌⊎◌, ℕ, zero, suc, ◌<◌, ◌≤◌, inl, inr, arith, refl, ap, sym, ◌∙◌, subst}
use Rattle.std.proofs.Common.{Bool, true, false, ◌||◌, List, [], ◌∷◌, ◌++◌}
use Rattle.std.proofs.lemmas.Bool.Decides.{nat_tests}
use Rattle.std.specs.Prelude.{Option, Some, None, is_some, nat_le, unwrap_or, if◌then◌else◌}
use Rattle.root2_cost.specs.Sums.{add_costs}
use Rattle.grid_moves.specs.declared.Cell.{Cell}
use Rattle.grid_moves.specs.declared.Dir.{Dir}
use Rattle.grid_moves.specs.declared.Dir.TheVariants.{N, NE, E, SE, S, SW, W, NW}
use Rattle.grid_moves.specs.Least.{NoneBelow}
use Rattle.grid_moves.specs.Move.{all_dirs, is_dir, is_same}
use Rattle.grid_moves.proofs.Legal.{is_same-cell, is_same-itself}
use Rattle.pruning.specs.declared.Arrival.TheVariants.{By}
use Rattle.pruning.specs.Allowed.{is_allowed}
use Rattle.pruning.specs.Chain.{run_cost}
use Rattle.pruning.specs.First.{first_stop, run_length}
use Rattle.pruning.specs.Marked.{run_end}
use Rattle.pruning.specs.Stop.{StopsAfter, IsFirstStop}
use Rattle.pruning.proofs.Runs.{run_length_is_exact}
use Rattle.pruning.proofs.Stopping.{first_stop_is_first}
use Rattle.pruning.proofs.Table.{by_test, same_dir}
use Rattle.one_state.specs.Search.{Search, Taken, as_reached, Offers, IsIn, here, there, HasCell, IsOffered}
use Rattle.one_state.specs.Tested.{landing, offers_within, reach, offers_in, offers_of, has_cell, fresh_of}
use Rattle.one_state.specs.Tested.{offers_by, offered_by}
use Rattle.one_state.proofs.Settling.{each_of, no_member}

-- where one of two holds and the first doesn't, the second does
pub or_rest : (a b : Bool) → (a || b) ≡ true → a ≡ false → b ≡ true
or_rest true b h k = absurd (cc)
or_rest false b h k = h

-- a direction is one of these
abbrev is_listed : Dir → List Dir → Bool
is_listed d [] = false
is_listed d (e ∷ dirs) = is_dir d e || is_listed d dirs

all_listed : (d : Dir) → is_listed d all_dirs ≡ true
all_listed N = refl
all_listed NE = refl
all_listed E = refl
all_listed SE = refl
all_listed S = refl
all_listed SW = refl
all_listed W = refl
all_listed NW = refl

-- one of two lists' members
pub in_left : (a b : List Taken) (x : Taken) → IsIn x a → IsIn x (a ++ b)
in_left [] b x m = absurd (no_member x m)
in_left (z ∷ a) b x (here e) = here (a ++ b)
in_left (z ∷ a) b x (there y e m) = there z (a ++ b) (in_left a b x m)

pub in_right : (a b : List Taken) (x : Taken) → IsIn x b → IsIn x (a ++ b)
in_right [] b x m = m
in_right (z ∷ a) b x m = there z (a ++ b) (in_right a b x m)

pub in_either : (a b : List Taken) (x : Taken) → IsIn x (a ++ b) → IsIn x a ⊎ IsIn x b
in_either [] b x m = inr m
in_either (z ∷ a) b x (here e) = inl (here a)
in_either (z ∷ a) b x (there y e m) = elim (in_either a b x m) [
  | inl k ↦ inl (there z a k)
  | inr k ↦ inr k
]

pub same_taken : (x y : Taken) → x.state.cell ≡ y.state.cell → x.state.arrival ≡ y.state.arrival
    → x.cost ≡ y.cost → x.parent ≡ y.parent → x ≡ y
same_taken x y c a k q = rw (c, a, k, q) refl

-- x is what u offers after so many moves in d, with no regard to stops before
record IsLanding (p : Search) (u x : Taken) (d : Dir) (k : ℕ) : Type 0 where
  reached : run_end p.grid d k u.state.cell ≡ Some x.state.cell
  stops_there : p.stops (as_reached u) d k ≡ true
  arrives : x.state.arrival ≡ By d
  priced : x.cost ≡ add_costs u.cost (run_cost d k)
  parent : x.parent ≡ u.state.cell

record LandsWithin (p : Search) (u x : Taken) (d : Dir) (most : ℕ) : Type 0 where
  moves : ℕ
  some : 1 ≤ moves
  few : moves ≤ most
  lands : IsLanding p u x d moves

module _ (p : Search) (u : Taken) (d : Dir) where
  abbrev after : ℕ → List Taken
  after k =
      if p.stops (as_reached u) d k then landing u d k (run_end p.grid d k u.state.cell) else []

  after-sound : (x : Taken) (k : ℕ) → IsIn x (after k) → IsLanding p u x d k
  after-sound x k m = by_stop (p.stops (as_reached u) d k) refl m
    where
      by_end : (o : Option Cell) → run_end p.grid d k u.state.cell ≡ o → p.stops (as_reached u) d k ≡ true
          → IsIn x (landing u d k o) → IsLanding p u x d k
      by_end None e h m = absurd (no_member x m)
      by_end (Some c) e h m = each_of (λ y. IsLanding p u y d k) _ []
          (record { reached = e; stops_there = h; arrives = refl; priced = refl; parent = refl })
          (λ y k. absurd (no_member y k)) x m

      by_stop : (b : Bool) → p.stops (as_reached u) d k ≡ b
          → IsIn x (if b then landing u d k (run_end p.grid d k u.state.cell) else []) → IsLanding p u x d k
      by_stop true e m = by_end (run_end p.grid d k u.state.cell) refl e m
      by_stop false e m = absurd (no_member x m)

  after-complete : (x : Taken) (k : ℕ) → IsLanding p u x d k → IsIn x (after k)
  after-complete x k l =
      let y : Taken = record {
        state = record { cell = x.state.cell; arrival = By d };
        cost = add_costs u.cost (run_cost d k);
        parent = u.state.cell;
      } in
      let same : y ≡ x = same_taken y x refl (sym l.arrives) (sym l.priced) (sym l.parent) in
      rw (l.stops_there, l.reached) (subst (λ (z : Taken). IsIn x (z ∷ [])) (sym same) (here []))

  within-sound : (x : Taken) (n : ℕ) → IsIn x (offers_within p u d n) → LandsWithin p u x d n
  within-sound x zero m = absurd (no_member x m)
  within-sound x (suc n) m = elim (in_either (after (suc n)) (offers_within p u d n) x m) [
    | inl k ↦ record {
      moves = suc n;
      some = omega arith;
      few = omega arith;
      lands = after-sound x (suc n) k;
    }
    | inr k ↦
        let w = within-sound x n k in
        record { moves = w.moves; some = w.some; few = (let few = w.few in omega arith); lands = w.lands }
  ]

  within-complete : (x : Taken) (n : ℕ) → LandsWithin p u x d n → IsIn x (offers_within p u d n)
  within-complete x zero w = absurd (let some = w.some in let few = w.few in omega arith)
  within-complete x (suc n) w = elim (below w.moves n w.few) [
    | inl few ↦ in_right (after (suc n)) (offers_within p u d n) x
        (within-complete x n (record { moves = w.moves; some = w.some; few = few; lands = w.lands }))
    | inr last ↦ in_left (after (suc n)) (offers_within p u d n) x
        (subst (λ k. IsIn x (after k)) last (after-complete x w.moves w.lands))
  ]
    where
      below : (k n : ℕ) → k ≤ suc n → (k ≤ n) ⊎ (k ≡ suc n)
      below k n h = grind arith

  -- as far as a search may stop no stop lies before, and no further
  reach-sound : (k : ℕ) → k ≤ reach p u d → NoneBelow (StopsAfter p.grid p.goal u.state.cell d) 1 k
  reach-sound k few = by_first (first_stop p.grid p.goal u.state.cell d)
      (first_stop_is_first p.grid p.goal u.state.cell d) few
    where
      by_first : (o : Option ℕ) → IsFirstStop p.grid p.goal u.state.cell d o
          → k ≤ unwrap_or o (run_length p.grid u.state.cell d)
          → NoneBelow (StopsAfter p.grid p.goal u.state.cell d) 1 k
      by_first None none few = none k
      by_first (Some n) first few = λ j low high. first.least j low (omega arith)

  reach-complete : (k : ℕ) (c : Cell) → 1 ≤ k → run_end p.grid d k u.state.cell ≡ Some c
      → NoneBelow (StopsAfter p.grid p.goal u.state.cell d) 1 k → k ≤ reach p u d
  reach-complete k c some r none = by_first (first_stop p.grid p.goal u.state.cell d)
      (first_stop_is_first p.grid p.goal u.state.cell d)
    where
      long : k ≤ run_length p.grid u.state.cell d
      long =
          let exact : nat_le k (run_length p.grid u.state.cell d) ≡ true =
          sym (run_length_is_exact p.grid u.state.cell d k) ∙ ap (λ (o : Option Cell). is_some o) r in
          grind (arith, nat_tests)

      order : (m n : ℕ) → (m ≤ n) ⊎ (n < m)
      order m n = grind arith

      by_first : (o : Option ℕ) → IsFirstStop p.grid p.goal u.state.cell d o
          → k ≤ unwrap_or o (run_length p.grid u.state.cell d)
      by_first None first = long
      by_first (Some n) first = elim (order k n) [
        | inl few ↦ few
        | inr more ↦ absurd (none n first.in_range more first.holds)
      ]

  -- so the offers in a direction are listed
  abbrev pub ahead_of : List Taken
  ahead_of =
      if is_allowed p.grid u.state.cell u.state.arrival d then offers_within p u d (reach p u d) else []

  pub ahead-sound : (x : Taken) → IsIn x ahead_of → Offers p u x
  ahead-sound x m = by_allowed (is_allowed p.grid u.state.cell u.state.arrival d) refl m
    where
      by_allowed : (b : Bool) → is_allowed p.grid u.state.cell u.state.arrival d ≡ b
          → IsIn x (if b then offers_within p u d (reach p u d) else []) → Offers p u x
      by_allowed false e m = absurd (no_member x m)
      by_allowed true e m =
          let w = within-sound x (reach p u d) m in
          record {
            dir = d;
            moves = w.moves;
            hop = record {
              allowed = e;
              some = w.some;
              no_stop_before = reach-sound w.moves w.few;
              reached = w.lands.reached;
              arrives = w.lands.arrives;
            };
            stops_there = w.lands.stops_there;
            priced = w.lands.priced;
            parent = w.lands.parent;
          }

module _ (p : Search) (u : Taken) where
  ahead-complete : (x : Taken) (o : Offers p u x) → IsIn x (ahead_of p u o.dir)
  ahead-complete x o = rw o.hop.allowed (within-complete p u o.dir x (reach p u o.dir) (record {
    moves = o.moves;
    some = o.hop.some;
    few = reach-complete p u o.dir o.moves x.state.cell o.hop.some o.hop.reached o.hop.no_stop_before;
    lands = record {
      reached = o.hop.reached;
      stops_there = o.stops_there;
      arrives = o.hop.arrives;
      priced = o.priced;
      parent = o.parent;
    };
  }))

  in-sound : (dirs : List Dir) (x : Taken) → IsIn x (offers_in p u dirs) → Offers p u x
  in-sound [] x m = absurd (no_member x m)
  in-sound (d ∷ dirs) x m = elim (in_either (ahead_of p u d) (offers_in p u dirs) x m) [
    | inl k ↦ ahead-sound p u d x k
    | inr k ↦ in-sound dirs x k
  ]

  in-complete : (dirs : List Dir) (d : Dir) (x : Taken) → is_listed d dirs ≡ true → IsIn x (ahead_of p u d)
      → IsIn x (offers_in p u dirs)
  in-complete [] d x h m = absurd (cc)
  in-complete (e ∷ dirs) d x h m = by_test (is_dir d e)
      (λ k. in_left (ahead_of p u e) (offers_in p u dirs) x
      (subst (λ (f : Dir). IsIn x (ahead_of p u f)) (same_dir d e k) m))
      (λ k. in_right (ahead_of p u e) (offers_in p u dirs) x
      (in-complete dirs d x (or_rest (is_dir d e) (is_listed d dirs) h k) m))

  offers-sound : (x : Taken) → IsIn x (offers_of p u) → Offers p u x
  offers-sound x m = in-sound all_dirs x m

  offers-complete : (x : Taken) → Offers p u x → IsIn x (offers_of p u)
  offers-complete x o = in-complete all_dirs o.dir x (all_listed o.dir) (ahead-complete x o)

-- the cell is among them
pub has_cell-sound : (all : List Taken) (v : Cell) → has_cell all v ≡ true → HasCell all v
has_cell-sound [] v h = absurd (cc)
has_cell-sound (x ∷ all) v h = by_test (is_same x.state.cell v)
    (λ e. record { by = x; member = here all; is = is_same-cell x.state.cell v e })
    (λ e.
    let r = has_cell-sound all v (or_rest (is_same x.state.cell v) (has_cell all v) h e) in
    record { by = r.by; member = there x all r.member; is = r.is })

pub has_cell-complete : (all : List Taken) (v : Cell) → HasCell all v → has_cell all v ≡ true
has_cell-complete [] v h = absurd (no_member h.by h.member)
has_cell-complete (x ∷ all) v h = each_of (λ u. u.state.cell ≡ v → has_cell (x ∷ all) v ≡ true) x all
    (λ e. let same : is_same x.state.cell v ≡ true =
    subst (λ (c : Cell). is_same x.state.cell c ≡ true) e (is_same-itself x.state.cell) in rw same refl)
    (λ u m e. by_test (is_same x.state.cell v) (λ k. rw k refl)
    (λ k. rw (k, has_cell-complete all v (record { by = u; member = m; is = e })) refl))
    h.by h.member h.is

pub has_cell-none : (all : List Taken) (v : Cell) → has_cell all v ≡ false → ¬ HasCell all v
has_cell-none all v e h = let k = has_cell-complete all v h in absurd (cc)

pub none-has_cell : (all : List Taken) (v : Cell) → ¬ HasCell all v → has_cell all v ≡ false
none-has_cell all v n = by_test (has_cell all v) (λ k. absurd (n (has_cell-sound all v k))) (λ k. k)

-- and what is fresh
fresh-sound : (taken offers : List Taken) (x : Taken) → IsIn x (fresh_of taken offers)
    → IsIn x offers × (¬ HasCell taken x.state.cell)
fresh-sound taken [] x m = absurd (no_member x m)
fresh-sound taken (y ∷ offers) x m = by_cell (has_cell taken y.state.cell) refl m
    (λ k. let r = fresh-sound taken offers x k in (there y offers r.0, r.1))
  where
    by_cell : (b : Bool) → has_cell taken y.state.cell ≡ b
        → IsIn x (if b then fresh_of taken offers else (y ∷ fresh_of taken offers))
        → (IsIn x (fresh_of taken offers) → IsIn x (y ∷ offers) × (¬ HasCell taken x.state.cell))
        → IsIn x (y ∷ offers) × (¬ HasCell taken x.state.cell)
    by_cell true e m next = next m
    by_cell false e m next = each_of
        (λ z. (IsIn z (fresh_of taken offers) → IsIn z (y ∷ offers) × (¬ HasCell taken z.state.cell))
        → IsIn z (y ∷ offers) × (¬ HasCell taken z.state.cell)) y (fresh_of taken offers)
        (λ _. (here offers, has_cell-none taken y.state.cell e)) (λ z k go. go k) x m next

fresh-complete : (taken offers : List Taken) (x : Taken) → IsIn x offers → ¬ HasCell taken x.state.cell
    → IsIn x (fresh_of taken offers)
fresh-complete taken [] x m n = absurd (no_member x m)
fresh-complete taken (y ∷ offers) x m n = each_of
    (λ z. ¬ HasCell taken z.state.cell → IsIn z (fresh_of taken (y ∷ offers))) y offers
    (λ n. rw (none-has_cell taken y.state.cell n) (here (fresh_of taken offers)))
    (λ z k n. behind z (fresh-complete taken offers z k n)) x m n
  where
    behind : (z : Taken) → IsIn z (fresh_of taken offers) → IsIn z (fresh_of taken (y ∷ offers))
    behind z k = by_test (has_cell taken y.state.cell) (λ e. rw e k)
        (λ e. rw e (there y (fresh_of taken offers) k))

module _ (p : Search) where
  record IsBy (taken : List Taken) (x : Taken) : Type 0 where
    by : Taken
    member : IsIn by taken
    offers : Offers p by x

  by-sound : (taken : List Taken) (x : Taken) → IsIn x (offers_by p taken) → IsBy taken x
  by-sound [] x m = absurd (no_member x m)
  by-sound (u ∷ taken) x m = elim (in_either (offers_of p u) (offers_by p taken) x m) [
    | inl k ↦ record { by = u; member = here taken; offers = offers-sound p u x k }
    | inr k ↦
        let b = by-sound taken x k in
        record { by = b.by; member = there u taken b.member; offers = b.offers }
  ]

  by-complete : (taken : List Taken) (u x : Taken) → IsIn u taken → Offers p u x
      → IsIn x (offers_by p taken)
  by-complete [] u x m o = absurd (no_member u m)
  by-complete (y ∷ taken) u x m o = each_of (λ v. Offers p v x → IsIn x (offers_by p (y ∷ taken))) y taken
      (λ o. in_left (offers_of p y) (offers_by p taken) x (offers-complete p y x o))
      (λ v k o. in_right (offers_of p y) (offers_by p taken) x (by-complete taken v x k o)) u m o

  -- so the list is that of what is offered
  pub offered-sound : (taken : List Taken) (x : Taken) → IsIn x (offered_by p taken) → IsOffered p taken x
  offered-sound taken x m =
      let f = fresh-sound taken (offers_by p taken) x m in
      let b = by-sound taken x f.0 in
      record { by = b.by; member = b.member; offers = b.offers; fresh = f.1 }

  pub offered-complete : (taken : List Taken) (x : Taken) → IsOffered p taken x
      → IsIn x (offered_by p taken)
  offered-complete taken x o = fresh-complete taken (offers_by p taken) x
      (by-complete taken o.by x o.member o.offers) o.fresh
