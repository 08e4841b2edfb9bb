-- One heap is taken from below the root.
use Rattle.std.proofs.Common.{◌≡◌, ◌≢◌, ⊎_elim, ℕ, ◌+◌, ◌<◌, ◌≤◌, Bool, true, List, length, map, Some}
use Rattle.std.proofs.Common.{slice_get, refl, sym, ap, subst, ◌∙◌, arith}
use Rattle.std.specs.Option.{option_map_or}
use Rattle.std.proofs.lemmas.Bool.{cond_both}
use Rattle.std.proofs.lemmas.Option.{slice_get_within}
use Rattle.open_list.specs.declared.entry.Entry.{Entry}
use Rattle.open_list.specs.declared.entry.TheConstants.{NONE}
use Rattle.open_list.specs.Entry.{changed, detached, relinked, next_of, prev_of, is_open, with_prev}
use Rattle.open_list.specs.Entry.{with_next}
use Rattle.open_list.specs.Heaps.{no_heap, heap, count_at, one_at, open_count, HaveOpen, IsHeap, IsDetached}
use Rattle.open_list.proofs.Changes.{length-changed, map-changed}
use Rattle.open_list.proofs.Counts.{one_at_same, one_at_other, open_count-le, none_past, open_from_count}
use Rattle.open_list.proofs.Counts.{open_with_link, entry_at, open_within}
use Rattle.open_list.proofs.Forests.{list_len-seconds}
use Rattle.open_list.proofs.Roots.{HoldsAll, holds_all, none_open}
use Rattle.open_list.proofs.Cuts as cuts

is_open-relinked : {N : Type 0} (old new : ℕ) (e : Entry N) → is_open (relinked old new e) ≡ is_open e
is_open-relinked old new e = grind (arith, cond_both)

node-relinked : {N : Type 0} (old new : ℕ) (e : Entry N) → (relinked old new e).node ≡ e.node
node-relinked old new e = grind (arith, cond_both)

module _ {N : Type 0} (before : N → N → Bool) (es : List (Entry N)) (root id : ℕ)
    (all : IsHeap before es root) (open_id : open_count (map is_open es) id ≡ 1) (below : id ≢ root) where
  some : root ≢ NONE
  some none = omega (
    arith,
    open_id,
    none_open before es
        (subst (λ (k : ℕ). IsHeap before es k) none all) id,
  )

  tree : HoldsAll before es root
  tree = holds_all before es root all some

  e : Entry N
  e = (entry_at es id (omega (arith, open_id))).0

  at_id : slice_get es id ≡ Some e
  unfolding e
  at_id = (entry_at es id (omega (arith, open_id))).1

  once : (i : ℕ) → one_at root i + count_at tree.children i ≤ 1
  once i = omega (arith, tree.once i, open_count-le (map is_open es) i)

  none_below : count_at tree.children NONE ≡ 0
  none_below = omega (arith, tree.once NONE, none_past es NONE (omega (arith, tree.small)))

  inside : 1 ≤ count_at tree.children id
  inside = omega (arith, tree.once id, one_at_other root id (λ same. below (sym same)))

  taken : cuts.IsCut before es id e.node e.child e.next e.prev at_id root tree.node tree.children
  taken =
      cuts.cut before es id e.node e.child e.next e.prev at_id root tree.node tree.children tree.above
      once none_below inside

  abbrev after : List (Entry N)
  after = cuts.later before es id e.node e.child e.next e.prev at_id

  -- the link back leads to the root or to another open node
  prev_counted : 1 ≤ one_at root e.prev + count_at tree.children e.prev
  prev_counted = grind (arith, e, one_at_same, taken)

  prev_within : e.prev < length es
  prev_within = open_within es e.prev (omega (arith, tree.once e.prev, prev_counted))

  prev_is : prev_of es id ≡ e.prev
  prev_is = ap (λ o. option_map_or (λ (x : Entry N). x.prev) o NONE) at_id

  next_is : next_of es id ≡ e.next
  next_is = ap (λ o. option_map_or (λ (x : Entry N). x.next) o NONE) at_id

  pub prev_of-within : prev_of es id < length es
  prev_of-within = rw prev_is prev_within

  detached_is : detached es id ≡ after
  detached_is = grind (arith, prev_is, e, next_is)

  abbrev unlinked : List (Entry N)
  unlinked = changed (relinked id e.next) e.prev es

  abbrev linked : List (Entry N)
  linked = changed (with_prev e.prev) e.next unlinked

  length_after : length after ≡ length es
  length_after = grind (arith, length-changed, e)

  open_unlinked : map is_open unlinked ≡ map is_open es
  open_unlinked = map-changed (relinked id e.next) is_open e.prev es (λ x at. is_open-relinked id e.next x)

  open_after : map is_open after ≡ map is_open es
  open_after =
      map-changed (with_next NONE) is_open id linked (λ x at. refl)
      ∙ map-changed (with_prev e.prev) is_open e.next unlinked
      (λ x at. open_with_link x e.prev (omega (arith, prev_within, tree.small)) ∙ sym (next_open x at))
      ∙ open_unlinked
    where
      next_open : (x : Entry N) → slice_get unlinked e.next ≡ Some x → is_open x ≡ true
      next_open x at =
          let len = length-changed (relinked id e.next) e.prev es in
          ⊎_elim
          (λ last. absurd (omega (arith, slice_get_within unlinked e.next x at, tree.small)))
          (λ (more : 1 ≤ count_at tree.children e.next).
          open_from_count unlinked e.next x at (rw open_unlinked (omega (arith, tree.once e.next))))
          taken.next_in

  nodes_after : map (λ x. x.node) after ≡ map (λ x. x.node) es
  nodes_after = grind (arith, map-changed, e, node-relinked)

  root_ne_next : root ≢ e.next
  root_ne_next same = grind (arith, e, one_at_same, some, once, taken, once e.next)

  lists_after : HaveOpen before after id root
  lists_after = record {
    firsts = heap id e.node taken.children no_heap;
    seconds = heap root tree.node taken.left no_heap;
    first_is = refl;
    second_is = refl;
    first_roots = (e.prev, taken.at_id, taken.above, tt);
    second_roots = (
      tree.prev,
      cuts.child_link before es id e.node e.child e.next e.prev at_id root tree.node tree.children
          taken tree.node NONE tree.prev (λ same. below (sym same)) root_ne_next tree.at,
      taken.held,
      tt,
    );
    once = λ i. rw open_after (omega (arith, tree.once i, taken.counts i));
    fits = omega (arith, tree.fits, taken.sizes, length_after);
    small = rw length_after tree.small;
  }

  pub is_detached : IsDetached before es (detached es id) root id
  unfolding lists_after
  is_detached = rw detached_is (record {
    beside = record {
      lists = lists_after;
      alone = omega (arith, list_len-seconds before after id root lists_after);
      last = ap (λ o. option_map_or (λ (x : Entry N). x.next) o NONE) taken.at_id;
    };
    kept = record { nodes = nodes_after; open_at = open_after };
  })
