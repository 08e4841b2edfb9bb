-- What the entries have after one heap is taken out of the list of children that it stands in.
use Rattle.std.proofs.lemmas.Bool.Decides.{nat_tests}
use Rattle.std.proofs.lemmas.Grind.{common_steps}
use Rattle.std.proofs.Common.{◌≡◌, ◌≢◌, ◌⊎◌, ⊎_elim, inl, inr, ℕ, suc, ◌+◌, ◌<◌, ◌≤◌, Bool, List, Some}
use Rattle.std.proofs.Common.{slice_get, refl, sym, ap, subst, ◌∙◌, arith}
use Rattle.std.proofs.lemmas.Bool.{cases_eq, cases_lt, eq-eqb, ne_eqb, cond-true, cond-false}
use Rattle.std.proofs.lemmas.Option.{same_Some}
use Rattle.open_list.specs.declared.entry.Entry.{Entry}
use Rattle.open_list.specs.declared.entry.TheConstants.{NONE}
use Rattle.open_list.specs.Entry.{changed, relinked, with_prev, with_next}
use Rattle.open_list.specs.Heaps.{Heaps, no_heap, heap, first_id, count_at, node_count, one_at, AreChildren}
use Rattle.open_list.proofs.Changes.{get-changed, get-changed_other}
use Rattle.open_list.proofs.Counts.{one_at_same, one_at_other, apart_from_one_at, first_apart, first_or_none}
use Rattle.open_list.proofs.Frames.{AreChildren-changed, AreChildren-moved}

module _ {N : Type 0} (before : N → N → Bool) (es : List (Entry N)) (id : ℕ) (node : N)
    (child next prev : ℕ) (at : slice_get es id
    ≡ Some (record { node = node; child = child; next = next; prev = prev })) where
  abbrev unlinked : List (Entry N)
  unlinked = changed (relinked id next) prev es

  abbrev linked : List (Entry N)
  linked = changed (with_prev prev) next unlinked

  abbrev pub later : List (Entry N)
  later = changed (with_next NONE) id linked

  -- the heap of `id` is taken out of this list, whose first heap has `holder` before it
  pub record IsCut (holder : ℕ) (parent : N) (hs : Heaps N) : Type 0 where
    pub left : Heaps N
    pub children : Heaps N
    pub held : AreChildren before later holder parent left
    pub above : AreChildren before later id node children
    pub at_id : slice_get later id ≡ Some
        (record { node = node; child = first_id children; next = NONE; prev = prev })
    pub counts : (i : ℕ) → count_at left i + one_at id i + count_at children i ≡ count_at hs i
    pub sizes : node_count left + suc (node_count children) ≡ node_count hs
    pub prev_in : (prev ≡ holder) ⊎ (1 ≤ count_at hs prev)
    pub next_in : (next ≡ NONE) ⊎ (1 ≤ count_at hs next)
    pub new_link : prev ≡ holder → (first_id hs ≡ id) × (first_id left ≡ next)
    pub same_link : prev ≢ holder → first_id left ≡ first_id hs

  -- a list in which none of the three entries stands is as before
  children_kept : (holder : ℕ) (parent : N) (hs : Heaps N) → count_at hs prev ≡ 0 → count_at hs next ≡ 0
      → count_at hs id ≡ 0 → AreChildren before es holder parent hs
      → AreChildren before later holder parent hs
  children_kept holder parent hs no_prev no_next no_id held =
      AreChildren-changed before (with_next NONE) id linked holder parent hs no_id
      (AreChildren-changed before (with_prev prev) next unlinked holder parent hs no_next
      (AreChildren-changed before (relinked id next) prev es holder parent hs no_prev held))

  -- the three numbers stand in no list beside that of the cut
  record AreElsewhere (hs : Heaps N) : Type 0 where
    no_prev : count_at hs prev ≡ 0
    no_next : count_at hs next ≡ 0
    no_id : count_at hs id ≡ 0

  elsewhere : (holder : ℕ) (parent : N) (hs others : Heaps N) → IsCut holder parent hs
      → ((i : ℕ) → one_at holder i + count_at hs i + count_at others i ≤ 1) → count_at others NONE ≡ 0
      → AreElsewhere others
  elsewhere holder parent hs others cut once none = record {
    no_prev = grind (arith, one_at_same, once prev);
    no_next = grind (arith, once next);
    no_id = omega (arith, cut.counts id, one_at_same id, once id);
  }

  -- the entry of `holder`, unless it is one of the other two
  holder_after : (holder : ℕ) → holder ≢ id → holder ≢ next
      → slice_get later holder ≡ slice_get unlinked holder
  holder_after holder not_id not_next = grind (arith, get-changed_other)

  holder_unlinked : (holder : ℕ) (e : Entry N) → slice_get es holder ≡ Some e → prev ≡ holder
      → slice_get unlinked holder ≡ Some (relinked id next e)
  holder_unlinked holder e found same = grind (arith, get-changed)

  -- its link to the first child
  pub child_link : (holder : ℕ) (parent : N) (hs : Heaps N) (cut : IsCut holder parent hs) (n : N)
      (after before_it : ℕ) → holder ≢ id → holder ≢ next
      → slice_get es holder ≡ Some (record {
        node = n;
        child = first_id hs;
        next = after;
        prev = before_it;
      })
      → slice_get later holder ≡ Some (record {
        node = n;
        child = first_id cut.left;
        next = after;
        prev = before_it;
      })
  child_link holder parent hs cut n after before_it not_id not_next found =
      holder_after holder not_id not_next ∙ ⊎_elim
      (λ same. let links = cut.new_link same in
      holder_unlinked holder _ found same
      ∙ ap Some (cond-true _ _ _ (eq-eqb (first_id hs) id links.0)
      ∙ ap (λ (k : ℕ). let e : Entry N =
      record { node = n; child = k; next = after; prev = before_it } in e) (sym links.1)))
      (λ other.
      get-changed_other (relinked id next) prev holder es (λ same. other (sym same))
      ∙ found ∙ ap (λ (k : ℕ). Some (let e : Entry N =
      record { node = n; child = k; next = after; prev = before_it } in e)) (sym (cut.same_link other)))
      (cases_eq prev holder)

  -- its link to the next sibling
  sibling_link : (holder : ℕ) (parent : N) (hs : Heaps N) (cut : IsCut holder parent hs) (n : N)
      (first before_it : ℕ) → holder ≢ id → holder ≢ next → first ≢ id
      → slice_get es holder ≡ Some (record {
        node = n;
        child = first;
        next = first_id hs;
        prev = before_it;
      })
      → slice_get later holder ≡ Some (record {
        node = n;
        child = first;
        next = first_id cut.left;
        prev = before_it;
      })
  sibling_link holder parent hs cut n first before_it not_id not_next not_first found =
      holder_after holder not_id not_next ∙ ⊎_elim
      (λ same. let links = cut.new_link same in
      holder_unlinked holder _ found same
      ∙ ap Some (cond-false _ _ _ (ne_eqb first id not_first)
      ∙ ap (λ (k : ℕ). let e : Entry N =
      record { node = n; child = first; next = k; prev = before_it } in e) (sym links.1)))
      (λ other.
      get-changed_other (relinked id next) prev holder es (λ same. other (sym same))
      ∙ found ∙ ap (λ (k : ℕ). Some (let e : Entry N =
      record { node = n; child = first; next = k; prev = before_it } in e)) (sym (cut.same_link other)))
      (cases_eq prev holder)

  -- the heap of `id` is the first of its list
  cut_first : (holder : ℕ) (parent : N) (n : N) (children rest : Heaps N)
      → AreChildren before es holder parent (heap id n children rest)
      → ((i : ℕ) → one_at holder i + count_at (heap id n children rest) i ≤ 1)
      → count_at (heap id n children rest) NONE ≡ 0 → IsCut holder parent (heap id n children rest)
  cut_first holder parent n children rest held once none =
      let same : record { node = n; child = first_id children; next = first_id rest; prev = holder }
      ≡ record { node = node; child = child; next = next; prev = prev } =
      same_Some _ _ (sym held.0 ∙ at) in
      let node_is : n ≡ node = ap (λ (e : Entry N). e.node) same in
      let child_is : first_id children ≡ child = ap (λ (e : Entry N). e.child) same in
      let next_is : first_id rest ≡ next = ap (λ (e : Entry N). e.next) same in
      let prev_is : holder ≡ prev = ap (λ (e : Entry N). e.prev) same in
      let here = one_at_same id in
      let at_holder : one_at id holder + count_at children holder + count_at rest holder ≡ 0 =
      omega (arith, once holder, one_at_same holder) in
      let at_prev : one_at id prev + count_at children prev + count_at rest prev ≡ 0 =
      subst (λ (k : ℕ). one_at id k + count_at children k + count_at rest k ≡ 0) prev_is at_holder in
      let at_next : one_at id next + count_at children next ≡ 0 =
      subst (λ (k : ℕ). one_at id k + count_at children k ≡ 0) next_is
      (first_apart rest _ (omega (arith, once (first_id rest)))
      (λ last. subst (λ (k : ℕ). one_at id k + count_at children k ≡ 0) (sym last) (omega arith))) in
      let moved : AreChildren before linked prev parent rest =
      subst (λ (k : ℕ). AreChildren before (changed (with_prev prev) k unlinked) prev parent rest) next_is
      (AreChildren-moved before unlinked id prev parent rest (omega (arith, once (first_id rest)))
      (AreChildren-changed before (relinked id next) prev es id parent rest (omega arith) held.3)) in
      record {
        left = rest;
        children = children;
        held = subst (λ (k : ℕ). AreChildren before later k parent rest) (sym prev_is)
            (AreChildren-changed before (with_next NONE) id linked prev parent rest
            (omega (arith, once id)) moved);
        above = grind (arith, children_kept, children, held, once id);
        at_id =
            get-changed (with_next NONE) id linked _
            (get-changed_other (with_prev prev) next id unlinked (apart_from_one_at id next (omega arith))
            ∙ get-changed_other (relinked id next) prev id es (apart_from_one_at id prev (omega arith))
            ∙ at)
            ∙ ap (λ (k : ℕ). Some (let e : Entry N =
            record { node = node; child = k; next = NONE; prev = prev } in e)) (sym child_is);
        counts = λ i. omega arith;
        sizes = omega arith;
        prev_in = inl (sym prev_is);
        next_in = grind (arith, children, first_or_none);
        new_link = λ _. (refl, next_is);
        same_link = λ other. absurd (other (sym prev_is));
      }

  -- every heap below the holder can be taken out
  pub cut : (holder : ℕ) (parent : N) (hs : Heaps N) → AreChildren before es holder parent hs
      → ((i : ℕ) → one_at holder i + count_at hs i ≤ 1) → count_at hs NONE ≡ 0 → 1 ≤ count_at hs id
      → IsCut holder parent hs
  cut holder parent no_heap held once none inside = absurd (omega (arith, inside))
  cut holder parent (heap i n children rest) held once none inside =
      ⊎_elim
      (λ (here : i ≡ id).
      subst (λ (k : ℕ). AreChildren before es holder parent (heap k n children rest)
      → ((j : ℕ) → one_at holder j + count_at (heap k n children rest) j ≤ 1)
      → count_at (heap k n children rest) NONE ≡ 0 → IsCut holder parent (heap k n children rest))
      (sym here)
      (cut_first holder parent n children rest) held once none)
      (λ (not_here : i ≢ id). ⊎_elim
      (λ (in_children : 0 < count_at children id).
      go_down not_here (cut i n children held.2 (λ j. omega (arith, once j)) (omega arith)
      (omega arith)))
      (λ (not_there : count_at children id ≤ 0).
      go_on not_here (cut i parent rest held.3 (λ j. omega (arith, once j)) (omega arith)
      (omega (arith, one_at_other i id not_here))))
      (cases_lt 0 (count_at children id)))
      (cases_eq i id)
    where
      not_next : (low : ℕ) → ((next ≡ NONE) ⊎ (1 ≤ low)) → one_at i next + low ≤ 1 → i ≢ next
      not_next low next_in most same = grind (arith, nat_tests, common_steps, one_at_same, none)

      -- the entry before it stands in this list, so the holder keeps its link
      counted : (low : ℕ) → ((prev ≡ i) ⊎ (1 ≤ low)) → 1 ≤ one_at i prev + low
      counted low prev_in = grind (arith, nat_tests, common_steps, one_at_same)

      not_holder : 1 ≤ count_at (heap i n children rest) prev → prev ≢ holder
      not_holder some same = grind (arith, nat_tests, common_steps, one_at_same, once prev)

      go_down : i ≢ id → IsCut i n children → IsCut holder parent (heap i n children rest)
      go_down not_here sub =
          let others = elsewhere i n children rest sub (λ j. omega (arith, once j)) (omega arith) in
          let prev_counted : 1 ≤ count_at (heap i n children rest) prev =
          omega (arith, counted _ sub.prev_in) in
          record {
            left = heap i n sub.left rest;
            children = sub.children;
            held = (
              child_link i n children sub n (first_id rest) holder not_here
                  (not_next _ sub.next_in (omega (arith, once next))) held.0,
              held.1,
              sub.held,
              children_kept i parent rest others.no_prev others.no_next others.no_id held.3,
            );
            above = sub.above;
            at_id = sub.at_id;
            counts = λ j. omega (arith, sub.counts j);
            sizes = omega (arith, sub.sizes);
            prev_in = inr prev_counted;
            next_in = ⊎_elim (λ last. inl last) (λ some. inr (omega arith)) sub.next_in;
            new_link = λ same. absurd (not_holder prev_counted same);
            same_link = λ _. refl;
          }

      go_on : i ≢ id → IsCut i parent rest → IsCut holder parent (heap i n children rest)
      go_on not_here sub =
          let others = elsewhere i parent rest children sub (λ j. omega (arith, once j)) (omega arith) in
          let prev_counted : 1 ≤ count_at (heap i n children rest) prev =
          omega (arith, counted _ sub.prev_in) in
          let not_first : first_id children ≢ id = λ same. ⊎_elim
          (λ last. let at_none : count_at (heap i n children rest) NONE
          ≡ count_at (heap i n children rest) id =
          ap (count_at (heap i n children rest)) (sym last ∙ same) in omega arith)
          (λ some. let there : 1 ≤ count_at children id =
          subst (λ (k : ℕ). 1 ≤ count_at children k) same some in omega (arith, others.no_id))
          (first_or_none children) in
          record {
            left = heap i n children sub.left;
            children = sub.children;
            held = (
              sibling_link i parent rest sub n (first_id children) holder not_here
                  (not_next _ sub.next_in (omega (arith, once next))) not_first held.0,
              held.1,
              children_kept i n children others.no_prev others.no_next others.no_id held.2,
              sub.held,
            );
            above = sub.above;
            at_id = sub.at_id;
            counts = λ j. omega (arith, sub.counts j);
            sizes = omega (arith, sub.sizes);
            prev_in = inr prev_counted;
            next_in = ⊎_elim (λ last. inl last) (λ some. inr (omega arith)) sub.next_in;
            new_link = λ same. absurd (not_holder prev_counted same);
            same_link = λ _. refl;
          }
