-- Two lists of heaps that have each open node once.
use Rattle.std.proofs.lemmas.Bool.Decides.{nat_tests}
use Rattle.std.proofs.lemmas.Grind.{common_steps}
use Rattle.std.proofs.Common.{◌≡◌, ◌≢◌, ℕ, zero, suc, ◌+◌, ◌<◌, ◌≤◌, ◌^◌, Bool, List, length, map, Some}
use Rattle.std.proofs.Common.{slice_get, refl, sym, ap, subst, ◌∙◌, arith}
use Rattle.std.specs.Option.{option_map_or}
use Rattle.std.proofs.lemmas.Option.{slice_get_within, slice_get_past}
use Rattle.open_list.specs.declared.entry.Entry.{Entry}
use Rattle.open_list.specs.declared.entry.TheConstants.{NONE}
use Rattle.open_list.specs.Entry.{changed, next_of, is_open, with_next, list_len, list_len_to, KeepsNodes}
use Rattle.open_list.specs.Heaps.{Heaps, no_heap, heap, first_id, count_at, node_count, heap_count, one_at}
use Rattle.open_list.specs.Heaps.{open_count, AreChildren, AreRoots, HaveOpen, IsShifted}
use Rattle.open_list.proofs.Changes.{get-changed, length-changed, map-changed}
use Rattle.open_list.proofs.Counts.{one_at_same, open_count-le}
use Rattle.open_list.proofs.Frames.{AreChildren-changed, AreRoots-changed}

pub kept_on : {N : Type 0} {a b c : List (Entry N)} → KeepsNodes a b → KeepsNodes b c → KeepsNodes a c
kept_on h k = record { nodes = k.nodes ∙ h.nodes; open_at = k.open_at ∙ h.open_at }

module _ {N : Type 0} (before : N → N → Bool) where
  heap_count-le : (hs : Heaps N) → heap_count hs ≤ node_count hs
  heap_count-le no_heap = omega arith
  heap_count-le (heap id n children rest) = omega (arith, heap_count-le rest)

  list_len_to-roots : (most : ℕ) (es : List (Entry N)) (hs : Heaps N) → heap_count hs ≤ most
      → length es ≤ NONE → AreRoots before es hs → list_len_to most es (first_id hs) ≡ heap_count hs
  list_len_to-roots zero es no_heap enough small held = refl
  list_len_to-roots zero es (heap id n children rest) enough small held = absurd (omega (arith, enough))
  list_len_to-roots (suc most) es no_heap enough small held =
      ap (λ o. option_map_or (λ (e : Entry N). suc (list_len_to most es e.next)) o 0)
      (slice_get_past es NONE small)
  list_len_to-roots (suc most) es (heap id n children rest) enough small held =
      ap (λ o. option_map_or (λ (e : Entry N). suc (list_len_to most es e.next)) o 0) held.1
      ∙ ap suc (list_len_to-roots most es rest (omega (arith, enough)) small held.3)

  pub list_len-none : (es : List (Entry N)) → length es < 2 ^ 28 → list_len es NONE ≡ 0
  list_len-none es small = list_len_to-roots (length es) es no_heap (omega arith) (omega arith) tt

  -- the order of the two lists has no meaning
  pub swapped : (es : List (Entry N)) (a b : ℕ) → HaveOpen before es a b → HaveOpen before es b a
  swapped es a b have = record {
    firsts = have.seconds;
    seconds = have.firsts;
    first_is = have.second_is;
    second_is = have.first_is;
    first_roots = have.second_roots;
    second_roots = have.first_roots;
    once = λ i. omega (arith, have.once i);
    fits = omega (arith, have.fits);
    small = have.small;
  }

  module _ (es : List (Entry N)) (a b : ℕ) (have : HaveOpen before es a b) where
    pub list_len-firsts : list_len es a ≡ heap_count have.firsts
    list_len-firsts =
        rw (← have.first_is) (list_len_to-roots (length es) es have.firsts
        (omega (arith, heap_count-le have.firsts, have.fits))
        (omega (arith, have.small)) have.first_roots)

    pub list_len-seconds : list_len es b ≡ heap_count have.seconds
    list_len-seconds =
        rw (← have.second_is) (list_len_to-roots (length es) es have.seconds
        (omega (arith, heap_count-le have.seconds, have.fits))
        (omega (arith, have.small)) have.second_roots)

  -- the list begins with the heap of this number
  pub record StartsWith (es : List (Entry N)) (hs : Heaps N) (id : ℕ) : Type 0 where
    pub node : N
    pub children : Heaps N
    pub rest : Heaps N
    pub prev : ℕ
    pub is : hs ≡ heap id node children rest
    pub at : slice_get es id ≡ Some (record {
      node = node;
      child = first_id children;
      next = first_id rest;
      prev = prev;
    })
    pub above : AreChildren before es id node children
    pub roots : AreRoots before es rest

  pub starts_with : (es : List (Entry N)) (hs : Heaps N) (id : ℕ) → first_id hs ≡ id → id ≢ NONE
      → AreRoots before es hs → StartsWith es hs id
  starts_with es hs id h1 h2 h3 = grind (arith, nat_tests, common_steps)

  pub next_of_start : {es : List (Entry N)} {hs : Heaps N} {id : ℕ} (start : StartsWith es hs id)
      → next_of es id ≡ first_id start.rest
  next_of_start start = ap (λ o. option_map_or (λ (e : Entry N). e.next) o NONE) start.at

  -- the link leads to an entry
  pub first_within : (es : List (Entry N)) (a b : ℕ) → HaveOpen before es a b → a ≢ NONE → a < length es
  first_within es a b have some =
      slice_get_within es a _ (starts_with es have.firsts a have.first_is some have.first_roots).at

  pub shifted : (es : List (Entry N)) (todo done : ℕ) → HaveOpen before es todo done → todo < length es
      → IsShifted before es (changed (with_next done) todo es) todo done (next_of es todo)
  shifted es todo done have within =
      let later = changed (with_next done) todo es in
      let start = starts_with es have.firsts todo have.first_is
      (λ none. omega (arith, have.small)) have.first_roots in
      let next_is = next_of_start start in
      let total : (i : ℕ)
      → one_at todo i + count_at start.children i + count_at start.rest i + count_at have.seconds i
      ≡ open_count (map is_open es) i =
      λ i. omega (arith, have.once i, ap (λ hs. count_at hs i) start.is) in
      let here = total todo in
      let most = open_count-le (map is_open es) todo in
      let one = one_at_same todo in
      let at : slice_get later todo ≡ Some
      (record {
        node = start.node;
        child = first_id start.children;
        next = first_id have.seconds;
        prev = start.prev;
      }) =
      rw have.second_is (get-changed (with_next done) todo es _ start.at) in
      let lists : HaveOpen before later (first_id start.rest) todo = record {
        firsts = start.rest;
        seconds = heap todo start.node start.children have.seconds;
        first_is = refl;
        second_is = refl;
        first_roots = AreRoots-changed before (with_next done) todo es start.rest (omega arith) start.roots;
        second_roots = (
          start.prev,
          at,
          AreChildren-changed before (with_next done) todo es todo start.node start.children
              (omega arith) start.above,
          AreRoots-changed before (with_next done) todo es have.seconds (omega arith) have.second_roots,
        );
        once = λ i. grind (arith, map-changed, total i);
        fits = omega (arith, have.fits, ap node_count start.is, length-changed (with_next done) todo es);
        small = rw (length-changed (with_next done) todo es) have.small;
      } in
      record {
        lists = subst (λ (k : ℕ). HaveOpen before later k todo) (sym next_is) lists;
        shorter = omega (
          arith,
          list_len-firsts later _ _ lists,
          list_len-firsts es _ _ have,
          ap heap_count start.is,
          ap (list_len later) next_is,
        );
        longer = omega (arith, list_len-seconds later _ _ lists, list_len-seconds es _ _ have);
        kept = grind (arith, map-changed);
      }
