-- The heap that has every open node.
use Rattle.std.proofs.lemmas.Bool.Decides.{nat_tests}
use Rattle.std.proofs.lemmas.Grind.{common_steps}
use Rattle.std.proofs.Common.{◌≡◌, ◌≢◌, ℕ, suc, ◌+◌, ◌<◌, ◌≤◌, ◌^◌, Bool, List, length, map, Some, slice_get}
use Rattle.std.proofs.Common.{refl, ap, arith}
use Rattle.std.proofs.lemmas.Option.{slice_get_within}
use Rattle.open_list.specs.declared.entry.Entry.{Entry}
use Rattle.open_list.specs.declared.entry.TheConstants.{NONE}
use Rattle.open_list.specs.Entry.{is_open}
use Rattle.open_list.specs.Heaps.{Heaps, no_heap, heap, first_id, count_at, node_count, heap_count, one_at}
use Rattle.open_list.specs.Heaps.{open_count, AreChildren, AreRoots, IsHeap}
use Rattle.open_list.proofs.Forests.{starts_with, list_len-seconds}

module _ {N : Type 0} (before : N → N → Bool) where
  -- the heap of `root` has each open node once
  pub record HoldsAll (es : List (Entry N)) (root : ℕ) : Type 0 where
    pub node : N
    pub children : Heaps N
    pub prev : ℕ
    pub at : slice_get es root ≡ Some (record {
      node = node;
      child = first_id children;
      next = NONE;
      prev = prev;
    })
    pub above : AreChildren before es root node children
    pub once : (i : ℕ) → one_at root i + count_at children i ≡ open_count (map is_open es) i
    pub fits : suc (node_count children) ≤ length es
    pub small : length es < 2 ^ 28

  -- no heap begins at NONE
  pub none_heap : (es : List (Entry N)) (hs : Heaps N) → length es < 2 ^ 28 → first_id hs ≡ NONE
      → AreRoots before es hs → hs ≡ no_heap
  none_heap es hs h1 h2 h3 = grind (arith, nat_tests, common_steps, slice_get_within)

  nothing_left : (hs : Heaps N) → heap_count hs ≤ 0 → hs ≡ no_heap
  nothing_left no_heap none = refl
  nothing_left (heap id n children rest) none = absurd (omega (arith, none))

  -- where no node is open, there is no root
  pub none_open : (es : List (Entry N)) → IsHeap before es NONE → (i : ℕ)
      → open_count (map is_open es) i ≡ 0
  none_open es all i = grind (arith, none_heap)

  pub holds_all : (es : List (Entry N)) (root : ℕ) → IsHeap before es root → root ≢ NONE → HoldsAll es root
  holds_all es root all some =
      let have = all.all_open in
      let firsts = none_heap es have.firsts have.small have.first_is have.first_roots in
      let start = starts_with before es have.seconds root have.second_is some have.second_roots in
      let last : start.rest ≡ no_heap =
      nothing_left start.rest (omega (
        arith,
        all.alone,
        list_len-seconds before es NONE root have,
        ap heap_count start.is,
      )) in
      record {
        node = start.node;
        children = start.children;
        prev = start.prev;
        at = grind (arith, nat_tests, common_steps);
        above = start.above;
        once = λ i. grind (arith, have.once i);
        fits = omega (arith, have.fits, ap node_count start.is);
        small = have.small;
      }
