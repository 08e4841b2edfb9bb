-- Lists of heaps stay as they are, where an entry is changed that is not theirs.
use Rattle.std.proofs.Common.{◌≡◌, ◌≢◌, ℕ, ◌<◌, ◌≤◌, Bool, false, List, Some, slice_get, sym, ap, ◌∙◌, arith}
use Rattle.std.proofs.Common.{◌++◌, ⊎_elim}
use Rattle.std.proofs.lemmas.Bool.{cases_eq, cases_lt}
use Rattle.std.proofs.lemmas.Option.{same_Some}
use Rattle.std.proofs.Common.{subst}
use Rattle.open_list.specs.Order.{IsStrictWeakOrder}
use Rattle.open_list.specs.declared.entry.Entry.{Entry}
use Rattle.open_list.specs.Entry.{changed, with_prev}
use Rattle.open_list.specs.Heaps.{Heaps, no_heap, heap, first_id, count_at, AreChildren, AreRoots}
use Rattle.open_list.proofs.Changes.{get-changed, get-changed_other, get-append_left}
use Rattle.open_list.proofs.Counts.{one_at_same, one_at_other, apart_from_one_at}

module _ {N : Type 0} (before : N → N → Bool) where
  pub AreChildren-changed : (f : Entry N → Entry N) (at : ℕ) (es : List (Entry N)) (prev : ℕ) (parent : N)
      (hs : Heaps N) → count_at hs at ≡ 0 → AreChildren before es prev parent hs
      → AreChildren before (changed f at es) prev parent hs
  AreChildren-changed f at es prev parent no_heap none held = tt
  AreChildren-changed f at es prev parent (heap id n children rest) none held = (
    get-changed_other f at id es (apart_from_one_at id at (omega arith)) ∙ held.0,
    held.1,
    AreChildren-changed f at es id n children (omega arith) held.2,
    AreChildren-changed f at es id parent rest (omega arith) held.3,
  )

  pub AreRoots-changed : (f : Entry N → Entry N) (at : ℕ) (es : List (Entry N)) (hs : Heaps N)
      → count_at hs at ≡ 0 → AreRoots before es hs → AreRoots before (changed f at es) hs
  AreRoots-changed f at es no_heap none held = tt
  AreRoots-changed f at es (heap id n children rest) none held = (
    held.0,
    get-changed_other f at id es (apart_from_one_at id at (omega arith)) ∙ held.1,
    AreChildren-changed f at es id n children (omega arith) held.2,
    AreRoots-changed f at es rest (omega arith) held.3,
  )

  -- the first child gets another link back
  pub AreChildren-moved : (es : List (Entry N)) (prev next_prev : ℕ) (parent : N) (hs : Heaps N)
      → count_at hs (first_id hs) ≤ 1 → AreChildren before es prev parent hs
      → AreChildren before (changed (with_prev next_prev) (first_id hs) es) next_prev parent hs
  AreChildren-moved es prev next_prev parent hs h1 h2 =
      grind (arith, one_at_same, get-changed, AreChildren-changed)

  -- children without their parent are a list of their own
  pub AreRoots_from_children : (es : List (Entry N)) (prev : ℕ) (parent : N) (hs : Heaps N)
      → AreChildren before es prev parent hs → AreRoots before es hs
  AreRoots_from_children es prev parent no_heap held = tt
  AreRoots_from_children es prev parent (heap id n children rest) held =
      (prev, held.0, held.2, AreRoots_from_children es id parent rest held.3)

  -- more entries change nothing
  pub AreChildren-append : (es others : List (Entry N)) (prev : ℕ) (parent : N) (hs : Heaps N)
      → AreChildren before es prev parent hs → AreChildren before (es ++ others) prev parent hs
  AreChildren-append es others prev parent no_heap held = tt
  AreChildren-append es others prev parent (heap id n children rest) held = (
    get-append_left es others id _ held.0,
    held.1,
    AreChildren-append es others id n children held.2,
    AreChildren-append es others id parent rest held.3,
  )

  pub AreRoots-append : (es others : List (Entry N)) (hs : Heaps N) → AreRoots before es hs
      → AreRoots before (es ++ others) hs
  AreRoots-append es others no_heap held = tt
  AreRoots-append es others (heap id n children rest) held = (
    held.0,
    get-append_left es others id _ held.1,
    AreChildren-append es others id n children held.2,
    AreRoots-append es others rest held.3,
  )

  -- children of a node are children of one that it is not before
  pub AreChildren-lowered : IsStrictWeakOrder before
      → (es : List (Entry N)) (prev : ℕ) (parent lowered : N) (hs : Heaps N)
      → before parent lowered ≡ false → AreChildren before es prev parent hs
      → AreChildren before es prev lowered hs
  AreChildren-lowered order es prev parent lowered no_heap lower held = tt
  AreChildren-lowered order es prev parent lowered (heap id n children rest) lower held = (
    held.0,
    order.not_before_is_transitive n parent lowered held.1 lower,
    held.2,
    AreChildren-lowered order es id parent lowered rest lower held.3,
  )

  -- no node below a parent is before it
  pub none_before_parent : IsStrictWeakOrder before
      → (es : List (Entry N)) (prev : ℕ) (parent : N) (hs : Heaps N)
      → AreChildren before es prev parent hs → (i : ℕ) (e : Entry N) → 1 ≤ count_at hs i
      → slice_get es i ≡ Some e → before e.node parent ≡ false
  none_before_parent order es prev parent no_heap held i e inside found = absurd (omega (arith, inside))
  none_before_parent order es prev parent (heap id n children rest) held i e inside found =
      ⊎_elim
      (λ (here : id ≡ i).
      let same : e ≡ record { node = n; child = first_id children; next = first_id rest; prev = prev } =
      same_Some _ _ (sym found ∙ subst (λ (k : ℕ). slice_get es k
      ≡ Some (let x : Entry N = record {
        node = n;
        child = first_id children;
        next = first_id rest;
        prev = prev;
      } in x)) here held.0) in
      ap (λ (x : Entry N). before x.node parent) same ∙ held.1)
      (λ (not_here : id ≢ i). ⊎_elim
      (λ (in_children : 0 < count_at children i).
      order.not_before_is_transitive e.node n parent
      (none_before_parent order es id n children held.2 i e (omega arith) found) held.1)
      (λ (not_there : count_at children i ≤ 0).
      none_before_parent order es id parent rest held.3 i e
      (omega (arith, one_at_other id i not_here)) found)
      (cases_lt 0 (count_at children i)))
      (cases_eq id i)
