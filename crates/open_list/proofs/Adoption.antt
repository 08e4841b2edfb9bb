-- What the entries have after one heap is made the first child of another.
use Rattle.std.proofs.Common.{◌≡◌, ◌≢◌, ℕ, suc, ◌+◌, ◌<◌, ◌≤◌, ◌^◌, Bool, true, false, List, length, map}
use Rattle.std.proofs.Common.{Some, slice_get, refl, sym, ap, ◌∙◌, arith}
use Rattle.std.proofs.lemmas.Option.{slice_get_within}
use Rattle.std.proofs.lemmas.Bool.{false_from_ne_true, both_ways}
use Rattle.open_list.specs.Order.{IsStrictWeakOrder}
use Rattle.open_list.specs.declared.entry.Entry.{Entry}
use Rattle.open_list.specs.Entry.{changed, adopted, next_of, is_open, list_len, KeepsNodes, with_prev}
use Rattle.open_list.specs.Entry.{with_child_and_next, with_next_and_prev}
use Rattle.open_list.specs.Heaps.{Heaps, heap, first_id, count_at, node_count, heap_count, one_at, open_count}
use Rattle.open_list.specs.Heaps.{AreChildren, AreRoots, HaveOpen, IsJoined}
use Rattle.open_list.proofs.Changes.{get-changed, get-changed_other, length-changed, map-changed}
use Rattle.open_list.proofs.Counts.{one_at_same, apart_from_one_at, first_apart, open_count-le, none_past}
use Rattle.open_list.proofs.Counts.{open_from_count, first_counts, open_with_link}
use Rattle.open_list.proofs.Forests.{StartsWith, starts_with, next_of_start, list_len-firsts}
use Rattle.open_list.proofs.Forests.{list_len-seconds}
use Rattle.open_list.proofs.Frames.{AreChildren-changed, AreRoots-changed, AreChildren-moved}

-- of two nodes not both are before the other
not_after : {N : Type 0} (before : N → N → Bool) → IsStrictWeakOrder before → (a b : N)
    → before a b ≡ true → before b a ≡ false
not_after before order a b first = grind (arith, false_from_ne_true, both_ways)

module _ {N : Type 0} (before : N → N → Bool) (es : List (Entry N)) where
  -- the heaps of `winner` and `loser` stand by themselves, beside two lists of heaps
  pub record AreApart (winner loser : ℕ) (won lost : N)
      (won_children lost_children firsts seconds : Heaps N) : Type 0 where
    pub won_next : ℕ
    pub won_prev : ℕ
    pub lost_next : ℕ
    pub lost_prev : ℕ
    pub winner_at : slice_get es winner ≡ Some
        (record { node = won; child = first_id won_children; next = won_next; prev = won_prev })
    pub loser_at : slice_get es loser ≡ Some
        (record { node = lost; child = first_id lost_children; next = lost_next; prev = lost_prev })
    pub winner_above : AreChildren before es winner won won_children
    pub loser_above : AreChildren before es loser lost lost_children
    pub first_roots : AreRoots before es firsts
    pub second_roots : AreRoots before es seconds
    pub in_order : before lost won ≡ false
    pub once : (i : ℕ)
        → one_at winner i + one_at loser i + count_at won_children i + count_at lost_children i
        + count_at firsts i + count_at seconds i ≡ open_count (map is_open es) i
    pub fits : 2 + node_count won_children + node_count lost_children + node_count firsts
        + node_count seconds ≤ length es
    pub small : length es < 2 ^ 28

  module _ {winner loser : ℕ} {won lost : N} {won_children lost_children firsts seconds : Heaps N}
      (all : AreApart winner loser won lost won_children lost_children firsts seconds) where
    abbrev first : ℕ
    first = first_id won_children

    abbrev hung : List (Entry N)
    hung = changed (with_next_and_prev first winner) loser es

    abbrev moved : List (Entry N)
    moved = changed (with_prev loser) first hung

    abbrev later : List (Entry N)
    later = changed (with_child_and_next loser (first_id seconds)) winner moved

    -- no number stands twice
    at_most_once : (i : ℕ)
        → one_at winner i + one_at loser i + count_at won_children i + count_at lost_children i
        + count_at firsts i + count_at seconds i ≤ 1
    at_most_once i = omega (arith, all.once i, open_count-le (map is_open es) i)

    winner_ne_loser : winner ≢ loser
    winner_ne_loser = apart_from_one_at winner loser (omega (arith, at_most_once loser, one_at_same loser))

    -- the first child stands nowhere else
    first_only : one_at winner first + one_at loser first + count_at lost_children first
        + count_at firsts first + count_at seconds first ≡ 0
    first_only =
        let most = at_most_once first in
        first_apart won_children _ (omega arith)
        (λ none.
        let total = all.once first in
        let past = none_past es first (omega (arith, all.small)) in
        omega arith)

    winner_in : winner < length es
    winner_in = slice_get_within es winner _ all.winner_at

    loser_in : loser < length es
    loser_in = slice_get_within es loser _ all.loser_at

    -- lists in which none of the three entries stands are as before
    children_kept : (prev : ℕ) (parent : N) (hs : Heaps N) → count_at hs loser ≡ 0 → count_at hs first ≡ 0
        → count_at hs winner ≡ 0 → AreChildren before es prev parent hs
        → AreChildren before later prev parent hs
    children_kept prev parent hs no_loser no_first no_winner held =
        AreChildren-changed before (with_child_and_next loser
        (first_id seconds)) winner moved prev parent hs no_winner
        (AreChildren-changed before (with_prev loser) first hung prev parent hs no_first
        (AreChildren-changed before
        (with_next_and_prev first winner) loser es prev parent hs no_loser held))

    roots_kept : (hs : Heaps N) → count_at hs loser ≡ 0 → count_at hs first ≡ 0 → count_at hs winner ≡ 0
        → AreRoots before es hs → AreRoots before later hs
    roots_kept hs no_loser no_first no_winner held =
        AreRoots-changed before (with_child_and_next loser (first_id seconds)) winner moved hs no_winner
        (AreRoots-changed before (with_prev loser) first hung hs no_first
        (AreRoots-changed before (with_next_and_prev first winner) loser es hs no_loser held))

    first_ne_winner : first ≢ winner
    first_ne_winner same = apart_from_one_at winner first (omega (arith, first_only)) (sym same)

    first_ne_loser : first ≢ loser
    first_ne_loser same = apart_from_one_at loser first (omega (arith, first_only)) (sym same)

    -- the winner's entry
    winner_later : slice_get later winner
        ≡ Some (record { node = won; child = loser; next = first_id seconds; prev = all.won_prev })
    winner_later = grind (arith, get-changed, get-changed_other, first_ne_winner, winner_ne_loser)

    loser_later : slice_get later loser ≡ Some
        (record { node = lost; child = first_id lost_children; next = first; prev = winner })
    loser_later = grind (arith, get-changed_other, winner_ne_loser, first_ne_loser, get-changed)

    -- the loser is the first of the winner's children
    children_later : AreChildren before later winner won (heap loser lost lost_children won_children)
    children_later =
        let at_loser = at_most_once loser in
        let at_winner = at_most_once winner in
        let here = one_at_same loser in
        let there = one_at_same winner in (
          loser_later,
          all.in_order,
          children_kept loser lost lost_children (omega arith) (omega (arith, first_only))
              (omega arith) all.loser_above,
          AreChildren-changed before (with_child_and_next loser
              (first_id seconds)) winner moved loser won won_children (omega arith)
              (AreChildren-moved before hung winner loser won won_children
              (omega (arith, at_most_once first))
              (AreChildren-changed before
              (with_next_and_prev first winner) loser es winner won won_children
              (omega arith) all.winner_above)),
        )

    open_later : map is_open later ≡ map is_open es
    open_later =
        map-changed (with_child_and_next loser (first_id seconds)) is_open winner moved (λ e at. refl)
        ∙ map-changed (with_prev loser) is_open first hung (λ e at.
        let at_first = sym (get-changed_other
        (with_next_and_prev first winner) loser first es first_ne_loser) ∙ at in
        let here = first_counts won_children
        (omega (arith, slice_get_within es first e at_first, all.small)) in
        open_with_link e loser (omega (arith, loser_in, all.small))
        ∙ sym (open_from_count es first e at_first (omega (arith, all.once first))))
        ∙ map-changed (with_next_and_prev first winner) is_open loser es (λ e at.
        open_with_link e winner (omega (arith, winner_in, all.small))
        ∙ sym (open_from_count es loser e at (omega (arith, all.once loser, one_at_same loser))))

    nodes_later : map (λ e. e.node) later ≡ map (λ e. e.node) es
    nodes_later = grind (arith, map-changed)

    abbrev result : List (Entry N)
    result = adopted es winner loser (first_id seconds)

    result_is : result ≡ later
    result_is = grind arith

    length_later : length later ≡ length es
    length_later = grind (arith, length-changed)

    -- the lists after the winner is put before the second
    lists_later : HaveOpen before later (first_id firsts) winner
    lists_later =
        let at_loser = at_most_once loser in
        let at_winner = at_most_once winner in
        let here = one_at_same loser in
        let there = one_at_same winner in
        record {
          firsts = firsts;
          seconds = heap winner won (heap loser lost lost_children won_children) seconds;
          first_is = refl;
          second_is = refl;
          first_roots = grind (arith, roots_kept, first_only);
          second_roots = grind (arith, winner_later, children_later, roots_kept, first_only);
          once = λ i. rw open_later (omega (arith, all.once i));
          fits = omega (arith, length_later, all.fits);
          small = rw length_later all.small;
        }

    pub lists_joined : HaveOpen before result (first_id firsts) winner
    lists_joined = rw result_is lists_later

    pub first_len : list_len result (first_id firsts) ≡ heap_count firsts
    unfolding lists_later
    first_len = rw result_is (list_len-firsts before later _ _ lists_later)

    pub second_len : list_len result winner ≡ suc (heap_count seconds)
    unfolding lists_later
    second_len = rw result_is (list_len-seconds before later _ _ lists_later)

    pub within_joined : winner < length result
    within_joined = rw result_is (rw length_later winner_in)

    pub kept_joined : KeepsNodes es result
    kept_joined = rw result_is (record { nodes = nodes_later; open_at = open_later })

  -- the heaps of `winner` and `loser` begin two lists, and stand apart
  apart : {lost_list won_list : Heaps N} {winner loser : ℕ} (w : StartsWith before es won_list winner)
      (l : StartsWith before es lost_list loser) (firsts seconds : Heaps N) → AreRoots before es firsts
      → AreRoots before es seconds → before l.node w.node ≡ false
      → ((i : ℕ) → one_at winner i + one_at loser i + count_at w.children i + count_at l.children i
      + count_at firsts i + count_at seconds i ≡ open_count (map is_open es) i)
      → 2 + node_count w.children + node_count l.children + node_count firsts + node_count seconds
      ≤ length es → length es < 2 ^ 28
      → AreApart winner loser w.node l.node w.children l.children firsts seconds
  apart w l firsts seconds first_roots second_roots in_order once fits small = record {
    won_next = first_id w.rest;
    won_prev = w.prev;
    lost_next = first_id l.rest;
    lost_prev = l.prev;
    winner_at = w.at;
    loser_at = l.at;
    winner_above = w.above;
    loser_above = l.above;
    first_roots = first_roots;
    second_roots = second_roots;
    in_order = in_order;
    once = once;
    fits = fits;
    small = small;
  }

  module _ (one other : ℕ) (have : HaveOpen before es other one) (one_in : one < length es)
      (other_in : other < length es) where
    starts_one : StartsWith before es have.seconds one
    starts_one = grind (arith, starts_with, have.small)

    starts_other : StartsWith before es have.firsts other
    starts_other = grind (arith, starts_with, have.small)

    -- either may win, and stands then before the rest of the list from `one`
    joined : {winner loser : ℕ} {won lost : N} {won_children lost_children : Heaps N}
        → AreApart winner loser won lost won_children lost_children starts_other.rest starts_one.rest
        → IsJoined before es (adopted es winner loser (next_of es one)) one other winner
    joined {winner} {loser} all =
        let next_one = next_of_start before starts_one in
        let next_other = next_of_start before starts_other in
        rw next_one
        (record {
          lists = rw next_other (lists_joined all);
          shorter = rw next_other (omega (
            arith,
            first_len all,
            list_len-firsts before es other one have,
            ap heap_count starts_other.is,
          ));
          as_long = omega (
            arith,
            second_len all,
            list_len-seconds before es other one have,
            ap heap_count starts_one.is,
          );
          within = within_joined all;
          kept = kept_joined all;
        })

    total : (i : ℕ) → one_at one i + count_at starts_one.children i + count_at starts_one.rest i +
        (one_at other i + count_at starts_other.children i + count_at starts_other.rest i)
        ≡ open_count (map is_open es) i
    total i = grind (arith, starts_one, starts_other, have.once i)

    enough : 2 + node_count starts_one.children + node_count starts_one.rest
        + node_count starts_other.children + node_count starts_other.rest ≤ length es
    enough = omega (arith, have.fits, ap node_count starts_one.is, ap node_count starts_other.is)

    -- the answer of the test, by the two nodes
    abbrev pub Tells : Bool → Type 0
    Tells test = (x y : Entry N) → slice_get es other ≡ Some x → slice_get es one ≡ Some y
        → test ≡ before x.node y.node

    pub one_wins : (test : Bool) → Tells test → test ≡ false
        → IsJoined before es (adopted es one other (next_of es one)) one other one
    one_wins test tells failed =
        joined (apart starts_one starts_other starts_other.rest starts_one.rest starts_other.roots
        starts_one.roots
        (sym (tells _ _ starts_other.at starts_one.at) ∙ failed) (λ i. omega (arith, total i))
        (omega (arith, enough)) have.small)

    pub other_wins : IsStrictWeakOrder before → (test : Bool) → Tells test → test ≡ true
        → IsJoined before es (adopted es other one (next_of es one)) one other other
    other_wins order test tells passed =
        joined (apart starts_other starts_one starts_other.rest starts_one.rest starts_other.roots
        starts_one.roots
        (not_after before order _ _ (sym (tells _ _ starts_other.at starts_one.at) ∙ passed))
        (λ i. omega (arith, total i)) (omega (arith, enough)) have.small)
