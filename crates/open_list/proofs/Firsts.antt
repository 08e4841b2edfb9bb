-- What callers see of the heap: the root is first among the open nodes.
use Rattle.std.proofs.Common.{◌≡◌, ◌≢◌, ⊎_elim, ℕ, ◌<◌, Bool, true, false, List, [], length, map, Some}
use Rattle.std.proofs.Common.{slice_get, refl, sym, ap, ◌∙◌, arith}
use Rattle.std.proofs.lemmas.Bool.{cases_eq}
use Rattle.std.proofs.lemmas.List.{length-map}
use Rattle.std.proofs.lemmas.Option.{slice_get_within, slice_get-map, same_Some}
use Rattle.open_list.specs.Order.{IsStrictWeakOrder}
use Rattle.open_list.specs.OpenList.{OpenList, IsFirst}
use Rattle.open_list.specs.declared.entry.Entry.{Entry}
use Rattle.open_list.specs.declared.entry.TheConstants.{NONE}
use Rattle.open_list.specs.Entry.{is_open, nodes_of}
use Rattle.open_list.specs.Heaps.{no_heap, IsHeap}
use Rattle.open_list.proofs.Counts.{one_at_same, one_at_other, open_count_open, open_count_past}
use Rattle.open_list.proofs.Counts.{flag_from_count, entry_at}
use Rattle.open_list.proofs.Frames.{none_before_parent}
use Rattle.open_list.proofs.Roots.{HoldsAll, holds_all, none_open}

module _ {N : Type 0} (before : N → N → Bool) where
  pub empty_heap : IsHeap before [] NONE
  empty_heap = record {
    all_open = record {
      firsts = no_heap;
      seconds = no_heap;
      first_is = refl;
      second_is = refl;
      first_roots = tt;
      second_roots = tt;
      once = λ i. omega (arith, open_count_past [] i (omega arith));
      fits = omega arith;
      small = omega arith;
    };
    alone = omega arith;
  }

  module _ (es : List (Entry N)) where
    pub flag_within : (id : ℕ) → slice_get (map is_open es) id ≡ Some true → id < length es
    flag_within id opened = omega (
      arith,
      slice_get_within (map is_open es) id true opened,
      length-map es is_open,
    )

    pub no_flag : IsHeap before es NONE → (id : ℕ) → slice_get (map is_open es) id ≡ Some true → ⊥
    no_flag all id opened = omega (
      arith,
      none_open before es all id,
      open_count_open (map is_open es) id opened,
    )

    module _ (root : ℕ) (all : IsHeap before es root) (some : root ≢ NONE) where
      tree : HoldsAll before es root
      tree = holds_all before es root all some

      pub root_within : root < length es
      root_within = slice_get_within es root _ tree.at

      pub root_open : slice_get (map is_open es) root ≡ Some true
      root_open = flag_from_count (map is_open es) root (omega (arith, tree.once root, one_at_same root))

      -- no open node is before that of the root
      none_before : IsStrictWeakOrder before → (i : ℕ) (e : Entry N)
          → slice_get (map is_open es) i ≡ Some true → slice_get es i ≡ Some e
          → before e.node tree.node ≡ false
      none_before order i e opened found =
          ⊎_elim
          (λ (here : root ≡ i).
          ap (λ (x : Entry N). before x.node tree.node)
          (same_Some e _ (sym found ∙ ap (slice_get es) (sym here) ∙ tree.at))
          ∙ order.not_before_itself tree.node)
          (λ (other : root ≢ i).
          none_before_parent before order es root tree.node tree.children tree.above i e
          (omega (
            arith,
            tree.once i,
            one_at_other root i other,
            open_count_open (map is_open es) i opened,
          )) found)
          (cases_eq root i)

      pub root_first : IsStrictWeakOrder before → (pool : OpenList N) → pool.nodes ≡ nodes_of es
          → pool.open_at ≡ map is_open es → IsFirst before pool root
      root_first order pool nodes flags =
          grind (arith, root_open, tree, slice_get-map, none_before, entry_at, open_count_open, same_Some)
