-- A node enters the heap, is lowered in it, or leaves it.
use Rattle.std.proofs.Common.{◌≡◌, ◌≢◌, ℕ, ◌+◌, ◌<◌, ◌^◌, Bool, true, false, cond, List, [], ◌∷◌}
use Rattle.std.proofs.Common.{◌++◌, length, map, set, Some, slice_get, refl, sym, ap, subst, ◌∙◌, arith}
use Rattle.std.proofs.Common.{length-append}
use Rattle.std.specs.Option.{option_map_or}
use Rattle.std.proofs.lemmas.List.{map_push}
use Rattle.std.proofs.lemmas.Option.{slice_get-map}
use Rattle.open_list.specs.Order.{IsStrictWeakOrder}
use Rattle.open_list.specs.declared.entry.Entry.{Entry}
use Rattle.open_list.specs.declared.entry.TheConstants.{NONE, CLOSED}
use Rattle.open_list.specs.Entry.{changed, child_of, next_of, nodes_of, is_open, list_len, with_node}
use Rattle.open_list.specs.Entry.{with_prev}
use Rattle.open_list.specs.Heaps.{no_heap, heap, first_id, count_at, node_count, heap_count, one_at}
use Rattle.open_list.specs.Heaps.{open_count, HaveOpen, IsHeap, AreBeside}
use Rattle.open_list.proofs.Changes.{get-changed, get-changed_other, length-changed, map-changed}
use Rattle.open_list.proofs.Changes.{map-changed_to, set-is_changed, get_pushed, get_pushed_other}
use Rattle.open_list.proofs.Counts.{one_at_same, one_at_other, open_count-le, open_count_open}
use Rattle.open_list.proofs.Counts.{open_count_closed, none_past}
use Rattle.open_list.proofs.Frames.{AreChildren-changed, AreRoots-changed, AreChildren-lowered}
use Rattle.open_list.proofs.Frames.{AreRoots-append, AreRoots_from_children}
use Rattle.open_list.proofs.Forests.{StartsWith, starts_with, next_of_start, swapped, list_len-firsts}
use Rattle.open_list.proofs.Forests.{list_len-seconds}
use Rattle.open_list.proofs.Roots.{HoldsAll, holds_all, none_heap}

-- the counts go by the flags alone
open_count-same : (old new : List Bool) (i : ℕ) → slice_get new i ≡ slice_get old i
    → open_count new i ≡ open_count old i
unfolding open_count
open_count-same old new i same = ap (λ o. option_map_or (λ b. cond b 1 0) o 0) same

module _ {N : Type 0} (before : N → N → Bool) where
  -- the first of a list gets a node that is not after its own
  module _ (order : IsStrictWeakOrder before) (es : List (Entry N)) (id other : ℕ)
      (have : HaveOpen before es id other) (some : id ≢ NONE) (node : N)
      (lower : (e : Entry N) → slice_get es id ≡ Some e → before e.node node ≡ false) where
    abbrev lowered : List (Entry N)
    lowered = changed (with_node node) id es

    start : StartsWith before es have.firsts id
    start = starts_with before es have.firsts id have.first_is some have.first_roots

    total : (i : ℕ)
        → one_at id i + count_at start.children i + count_at start.rest i + count_at have.seconds i
        ≡ open_count (map is_open es) i
    total i = omega (arith, have.once i, ap (λ hs. count_at hs i) start.is)

    pub lists_lowered : HaveOpen before lowered id other
    lists_lowered =
        let here = total id in
        let most = open_count-le (map is_open es) id in
        let one = one_at_same id in
        record {
          firsts = heap id node start.children start.rest;
          seconds = have.seconds;
          first_is = refl;
          second_is = have.second_is;
          first_roots = (
            start.prev,
            get-changed (with_node node) id es _ start.at,
            AreChildren-lowered before order lowered id start.node node start.children (lower _ start.at)
                (AreChildren-changed before (with_node node) id es id start.node start.children
                (omega arith) start.above),
            AreRoots-changed before (with_node node) id es start.rest (omega arith) start.roots,
          );
          second_roots = AreRoots-changed before (with_node node) id es have.seconds
              (omega arith) have.second_roots;
          once = λ i. grind (arith, map-changed, total, total i);
          fits = omega (arith, have.fits, ap node_count start.is, length-changed (with_node node) id es);
          small = rw (length-changed (with_node node) id es) have.small;
        }

    pub other_len : list_len lowered other ≡ list_len es other
    unfolding lists_lowered
    other_len = list_len-seconds before lowered id other lists_lowered
        ∙ sym (list_len-seconds before es id other have)

    pub own_len : list_len lowered id ≡ list_len es id
    unfolding lists_lowered
    own_len =
        list_len-firsts before lowered id other lists_lowered
        ∙ sym (list_len-firsts before es id other have ∙ ap heap_count start.is)

    pub own_next : next_of lowered id ≡ next_of es id
    own_next = grind (arith, get-changed, start, next_of_start)

  -- the node of the root is lowered
  pub root_lowered : IsStrictWeakOrder before → (es : List (Entry N)) (root : ℕ) → IsHeap before es root
      → root ≢ NONE → (node : N) → ((e : Entry N) → slice_get es root ≡ Some e
      → before e.node node ≡ false) → IsHeap before (changed (with_node node) root es) root
  root_lowered order es root all some node lower =
      let lists = swapped before es NONE root all.all_open in
      record {
        all_open = swapped before _ root NONE (lists_lowered order es root NONE lists some node lower);
        alone = omega (arith, all.alone, own_len order es root NONE lists some node lower);
      }

  -- the node of the heap beside the root is lowered
  pub beside_lowered : IsStrictWeakOrder before → (es : List (Entry N)) (root id : ℕ)
      → AreBeside before es root id → id ≢ NONE → (node : N)
      → ((e : Entry N) → slice_get es id ≡ Some e → before e.node node ≡ false)
      → AreBeside before (changed (with_node node) id es) root id
  beside_lowered order es root id beside some node lower = record {
    lists = lists_lowered order es id root beside.lists some node lower;
    alone = omega (arith, beside.alone, other_len order es id root beside.lists some node lower);
    last = own_next order es id root beside.lists some node lower ∙ beside.last;
  }

  -- where there is no root, the heap beside it has each open node
  pub beside_none : (es : List (Entry N)) (id : ℕ) → AreBeside before es NONE id → id ≢ NONE
      → IsHeap before es id
  beside_none es id beside some =
      let have = beside.lists in
      let start = starts_with before es have.firsts id have.first_is some have.first_roots in
      let last : start.rest ≡ no_heap = grind (arith, none_heap, start, next_of_start) in
      record {
        all_open = swapped before es id NONE have;
        alone = omega (
          arith,
          list_len-firsts before es id NONE have,
          ap heap_count start.is,
          ap heap_count last,
        );
      }

  -- the root is closed: its children have the other open nodes
  module _ (es : List (Entry N)) (root : ℕ) (all : IsHeap before es root) (some : root ≢ NONE) where
    abbrev closed : List (Entry N)
    closed = changed (with_prev CLOSED) root es

    tree : HoldsAll before es root
    tree = holds_all before es root all some

    pub flags_closed : map is_open closed ≡ set (map is_open es) root false
    flags_closed = grind (arith, map-changed_to, set-is_changed)

    none_twice : count_at tree.children root ≡ 0
    none_twice = omega (arith, tree.once root, one_at_same root, open_count-le (map is_open es) root)

    children_only : (i : ℕ) → count_at tree.children i ≡ open_count (map is_open closed) i
    children_only i =
        grind (
          arith,
          slice_get-map,
          get-changed,
          tree,
          none_twice,
          open_count_closed,
          get-changed_other,
          one_at_other,
          open_count-same,
        )

    pub root_closed : HaveOpen before closed (child_of es root) NONE
    root_closed =
        let child_is : child_of es root ≡ first_id tree.children = grind (arith, tree) in
        let len : length closed ≡ length es = length-changed (with_prev CLOSED) root es in
        let lists : HaveOpen before closed (first_id tree.children) NONE = record {
          firsts = tree.children;
          seconds = no_heap;
          first_is = refl;
          second_is = refl;
          first_roots = AreRoots_from_children before closed root tree.node tree.children
              (AreChildren-changed before
              (with_prev CLOSED) root es root tree.node tree.children none_twice tree.above);
          second_roots = tt;
          once = λ i. omega (arith, children_only i);
          fits = omega (arith, tree.fits, len);
          small = rw len tree.small;
        } in
        subst (λ (k : ℕ). HaveOpen before closed k NONE) (sym child_is) lists

  -- a node is put at the end, as a heap by itself
  module _ (es : List (Entry N)) (root : ℕ) (node : N) (all : IsHeap before es root)
      (room : length es + 1 < 2 ^ 28) where
    abbrev fresh : Entry N
    fresh = record { node = node; child = NONE; next = NONE; prev = NONE }

    abbrev pushed : List (Entry N)
    pushed = es ++ fresh ∷ []

    pub flags_pushed : map is_open pushed ≡ map is_open es ++ true ∷ []
    flags_pushed = map_push is_open es fresh

    have : HaveOpen before es NONE root
    have = all.all_open

    counted : (i : ℕ) → one_at (length es) i + count_at have.seconds i ≡ open_count (map is_open pushed) i
    counted i =
        grind (
          arith,
          have,
          none_heap,
          slice_get-map,
          get_pushed,
          one_at_same,
          none_past,
          open_count_open,
          get_pushed_other,
          one_at_other,
          open_count-same,
        )

    lists_pushed : HaveOpen before pushed (length es) root
    lists_pushed = record {
      firsts = heap (length es) node no_heap no_heap;
      seconds = have.seconds;
      first_is = refl;
      second_is = have.second_is;
      first_roots = (NONE, get_pushed es fresh, tt, tt);
      second_roots = AreRoots-append before es (fresh ∷ []) have.seconds have.second_roots;
      once = λ i. omega (arith, counted i);
      fits = omega (arith, have.fits, length-append es (fresh ∷ []));
      small = omega (arith, length-append es (fresh ∷ []));
    }

    beside_pushed : AreBeside before pushed root (length es)
    unfolding lists_pushed
    beside_pushed = record {
      lists = lists_pushed;
      alone = omega (
        arith,
        all.alone,
        list_len-seconds before pushed (length es) root lists_pushed,
        list_len-seconds before es NONE root have,
      );
      last = ap (λ o. option_map_or (λ (e : Entry N). e.next) o NONE) (get_pushed es fresh);
    }

    pub beside_added : (id : ℕ) → length es ≡ id → AreBeside before pushed root id
    beside_added id id_is = subst (λ (k : ℕ). AreBeside before pushed root k) id_is beside_pushed

module _ {N : Type 0} where
  -- what is known of the node at a number is known of the entry there
  pub entry_lower : (before : N → N → Bool) (es : List (Entry N)) (nodes : List N) (id : ℕ) (node : N)
      → nodes_of es ≡ nodes → ((n : N) → slice_get nodes id ≡ Some n → before n node ≡ false)
      → (e : Entry N) → slice_get es id ≡ Some e → before e.node node ≡ false
  entry_lower before es nodes id node same lower e found = grind (arith, slice_get-map)

  pub nodes_lowered : (es : List (Entry N)) (id : ℕ) (node : N)
      → nodes_of (changed (with_node node) id es) ≡ set (nodes_of es) id node
  nodes_lowered es id node = grind (arith, map-changed_to, set-is_changed)

  pub flags_lowered : (es : List (Entry N)) (id : ℕ) (node : N)
      → map is_open (changed (with_node node) id es) ≡ map is_open es
  flags_lowered es id node = map-changed (with_node node) is_open id es (λ e at. refl)

  pub nodes_closed : (es : List (Entry N)) (root : ℕ)
      → nodes_of (changed (with_prev CLOSED) root es) ≡ nodes_of es
  nodes_closed es root = map-changed (with_prev CLOSED) (λ (e : Entry N). e.node) root es (λ e at. refl)
