-- Cells that are listed, and tries that are drawn.
use Rattle.std.proofs.lemmas.Bool.Decides.{nat_tests}
use Rattle.std.proofs.Common.{◌≡◌, ℕ, zero, suc, ◌+◌, ◌-◌, ◌*◌, ◌<◌, ◌≤◌, arith, refl, ap, sym, ◌∙◌}
use Rattle.std.proofs.Common.{Bool, true, false, cond, List, [], ◌∷◌, ◌++◌, length, take, length-append}
use Rattle.std.proofs.Common.{◌&&◌, length-take}
use Rattle.std.proofs.lemmas.List.{append_assoc, append-nil}
use Rattle.std.proofs.lemmas.List.FromFn.{filter_of_map_range_with_len_more}
use Rattle.std.proofs.lemmas.Nat.{div-mul-add, mod-mul-add}
use Rattle.std.proofs.lemmas.List.Elements.{All-take, All-weaker, filter_agree, filter_passes}
use Rattle.std.specs.List.{All, filter}
use Rattle.std.specs.Prelude.{not, IsTrue, ◌↔◌}
use Rattle.rand_pcg.specs.Lcg.{Lcg}
use Rattle.rand_pcg.specs.Pcg.{pcg32}
use Rattle.grid_moves.specs.declared.Cell.{Cell}
use Rattle.grid_moves.specs.Layers.{Layers, is_free_ground}
use Rattle.grid_moves.specs.Move.{is_same}
use Rattle.grid_moves.proofs.Legal.{and_both}
use Rattle.grid_moves.specs.Grid.{cell_numbered}
use Rattle.joined_cells.specs.Both.{BothLabels, HasWalk, TellsBoth, are_joined_in}
use Rattle.map_maker.specs.Words.{words_from}
use Rattle.grid_moves.specs.declared.ends.Ends.{Ends}
use Rattle.problem_maker.specs.Drawing.{Draws}
use Rattle.problem_maker.specs.Free.{free_below, free_cells}
use Rattle.problem_maker.specs.Tries.{cell_at, is_kept, kept_ends, kept_of, leads, most_tries, tries}
use Rattle.problem_maker.specs.Tries.{tries_by}
use Rattle.problem_maker.proofs.Leading.{leads_is}

-- the cell of a column and a row has their number
numbered-cell : (width x y : ℕ) → x < width → cell_numbered width (y * width + x) ≡ record { x = x; y = y }
numbered-cell width x y h = rw (mod-mul-add y width x h, div-mul-add y width x h) refl

-- one cell more
pub free_more : (ls : Layers) (x y n : ℕ) → x < ls.land.width → n ≡ y * ls.land.width + x
    → free_below ls (n + 1) ≡ free_below ls n
    ++ cond (is_free_ground ls (record { x = x; y = y })) (record { x = x; y = y } ∷ []) []
free_more ls x y n h e =
    let c : cell_numbered ls.land.width n ≡ record { x = x; y = y } =
    ap (cell_numbered ls.land.width) e ∙ numbered-cell ls.land.width x y h in
    filter_of_map_range_with_len_more (is_free_ground ls) (cell_numbered ls.land.width) 0 n n (omega arith)
    ∙ ap (λ (v : Cell). free_below ls n ++ cond (is_free_ground ls v) (v ∷ []) []) c

same_ends : (e f : Ends) → e.from ≡ f.from → e.to ≡ f.to → e ≡ f
same_ends e f h1 h2 = grind (arith, nat_tests)

take_none : (n : ℕ) → take {A = Ends} n [] ≡ []
take_none zero = refl
take_none (suc n) = refl

-- the next tries of a generator
abbrev pub tries_from : List Cell → ℕ → Lcg → List Ends
tries_from cells n g = tries_by cells (words_from (2 * n) g)

-- the kept ones so far, and those of the tries that are left, are those of all tries
pub record AreDrawn (keep : Ends → Bool) (cells : List Cell) (count : ℕ) (start : Lcg) (most tried : ℕ)
    (kept : List Ends) (g : Lcg) : Type 0 where
  pub all : kept ++ take (count - length kept) (filter keep (tries_from cells (most - tried) g))
      ≡ take count (filter keep (tries_from cells most start))
  pub few : length kept ≤ count

-- the first words tell a try, and those behind it the others
next_try : (cells : List Cell) (n m : ℕ) (g : Lcg) (ends : Ends) (new : Lcg) → Draws cells g ends new
    → n ≡ m + 1 → tries_from cells n g ≡ ends ∷ tries_from cells m new
unfolding words_from tries_by
next_try cells n m g ends new draws e =
    let two : 2 * n ≡ suc (suc (2 * m)) = omega arith in
    let drawn : Ends = record {
      from = cell_at cells (pcg32 g).0;
      to = cell_at cells (pcg32 (pcg32 g).1).0;
    } in
    ap (λ (k : ℕ). tries_by cells (words_from k g)) two
    ∙ ap (λ (t : Ends). t ∷ tries_from cells m (pcg32 (pcg32 g).1).1)
    (sym (same_ends ends drawn draws.from draws.to))
    ∙ ap (λ (h : Lcg). ends ∷ tries_from cells m h) (sym draws.left)

-- a try that is kept, and one that is not
take_kept : (keep : Ends → Bool) (ends : Ends) (others : List Ends) (n m : ℕ) → n ≡ suc m
    → keep ends ≡ true → take n (filter keep (ends ∷ others)) ≡ ends ∷ take m (filter keep others)
take_kept keep ends others n m e good = rw (e, good) refl

take_dropped : (keep : Ends → Bool) (ends : Ends) (others : List Ends) (n : ℕ)
    → keep ends ≡ false
    → take n (filter keep (ends ∷ others)) ≡ take n (filter keep others)
take_dropped keep ends others n bad = rw bad refl

module _ (keep : Ends → Bool) (cells : List Cell) (count : ℕ) (start : Lcg) (most : ℕ) where
  pub none_drawn : AreDrawn keep cells count start most 0 [] start
  none_drawn = record { all = rw (sub_none count, sub_none most) refl; few = omega arith }
    where
      sub_none : (n : ℕ) → n - 0 ≡ n
      sub_none n = omega arith

  module _ (tried : ℕ) (kept : List Ends) (g : Lcg)
      (are : AreDrawn keep cells count start most tried kept g) where
    module _ (ends : Ends) (new : Lcg) (draws : Draws cells g ends new) (more : tried < most) where
      next : kept ++ take (count - length kept)
          (filter keep (ends ∷ tries_from cells (most - (tried + 1)) new))
          ≡ take count (filter keep (tries_from cells most start))
      next =
          let one : most - tried ≡ most - (tried + 1) + 1 = omega arith in
          ap (λ (xs : List Ends). kept ++ take (count - length kept) (filter keep xs))
          (sym (next_try cells (most - tried) (most - (tried + 1)) g ends new draws one)) ∙ are.all

      pub drawn_kept : length kept < count → keep ends ≡ true
          → AreDrawn keep cells count start most (tried + 1) (kept ++ (ends ∷ [])) new
      drawn_kept room good =
          let long = length-append kept (ends ∷ []) in
          let one : count - length kept ≡ suc (count - length (kept ++ (ends ∷ []))) = omega arith in
          record {
            all = append_assoc kept (ends ∷ []) _ ∙ ap (λ (xs : List Ends). kept ++ xs)
                (sym (take_kept keep ends _ _ _ one good)) ∙ next;
            few = omega arith;
          }

      pub drawn_dropped : keep ends ≡ false → AreDrawn keep cells count start most (tried + 1) kept new
      drawn_dropped bad = record {
        all = ap (λ (xs : List Ends). kept ++ xs) (sym (take_dropped keep ends _ _ bad)) ∙ next;
        few = are.few;
      }

    -- where as many were kept as are wanted, or no try is left, these are all
    pub drawn_enough : count ≤ length kept → kept ≡ take count (filter keep (tries_from cells most start))
    drawn_enough h1 = grind (arith, nat_tests, append-nil)

    pub drawn_all : most ≤ tried → kept ≡ take count (filter keep (tries_from cells most start))
    unfolding words_from tries_by
    drawn_all end =
        let none : most - tried ≡ 0 = omega arith in
        sym (append-nil kept)
        ∙ ap (λ (xs : List Ends). kept ++ xs) (sym (take_none (count - length kept)))
        ∙ ap (λ (n : ℕ). kept ++ take (count - length kept) (filter keep (tries_from cells n g))) (sym none)
        ∙ are.all

-- tests that tell of the same walks are one
same_test : (a b : Bool) (W : Type 0) → IsTrue a ↔ W → IsTrue b ↔ W → a ≡ b
same_test true true W h k = refl
same_test true false W h k = sym (k.1 (h.0 refl))
same_test false true W h k = h.1 (k.0 refl)
same_test false false W h k = refl

-- the tries that are kept by the labels of both layers are those that are kept on the map
pub kept_is : (ls : Layers) (seed count : ℕ) (p : BothLabels) → TellsBoth ls p → (cells : List Cell)
    → cells ≡ free_cells ls → (kept : List Ends) → kept ≡ kept_ends (are_joined_in p) cells seed count
    → kept ≡ kept_of ls seed count
kept_is ls seed count p tells cells is kept e =
    e ∙ ap (λ (cs : List Cell). kept_ends (are_joined_in p) cs seed count) is
    ∙ ap (take count) (filter_agree (is_kept (are_joined_in p)) (is_kept (leads ls))
    (λ e. ap (λ (t : Bool). not (is_same e.from e.to) && t)
    (same_test (are_joined_in p e.from e.to) (leads ls e.from e.to) (HasWalk ls e.from e.to)
    (tells.joined e.from e.to) (leads_is ls e.from e.to)))
    (tries (free_cells ls) seed (most_tries count)))

-- each of the kept ones has a walk, and there are no more than are wanted
pub kept_walks : (ls : Layers) (seed count : ℕ) → All (λ e. HasWalk ls e.from e.to) (kept_of ls seed count)
kept_walks ls seed count =
    All-take (λ e. HasWalk ls e.from e.to) count _
    (All-weaker (λ e. is_kept (leads ls) e ≡ true) (λ e. HasWalk ls e.from e.to)
    (λ e h. (leads_is ls e.from e.to).0
    (and_both (not (is_same e.from e.to)) (leads ls e.from e.to) h).1)
    _ (filter_passes (is_kept (leads ls)) (tries (free_cells ls) seed (most_tries count))))

pub kept_few : (ls : Layers) (seed count : ℕ) → length (kept_of ls seed count) ≤ count
kept_few ls seed count =
    let l = length-take count (filter (is_kept (leads ls)) (tries (free_cells ls) seed (most_tries count))) in
    omega arith
