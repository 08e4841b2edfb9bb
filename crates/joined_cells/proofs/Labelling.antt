-- Where all free cells have labels, these tell which cells are joined.
use Rattle.std.proofs.Common.{◌≡◌, ◌≢◌, ℕ, ◌+◌, ◌*◌, inl, inr, arith, refl, sym, ◌∙◌, subst}
use Rattle.std.proofs.Common.{Bool, true, false, ◌&&◌, List, [], ◌∷◌, length, get_or}
use Rattle.std.specs.Prelude.{nat_eq, not, if◌then◌else◌}
use Rattle.std.proofs.lemmas.Bool.Decides.{nat_tests}
use Rattle.grid_moves.specs.declared.Cell.{Cell}
use Rattle.grid_moves.specs.Grid.{GridData, cell_number, is_free, is_inside}
use Rattle.grid_moves.specs.Move.{is_legal}
use Rattle.grid_moves.specs.Walk.{is_walk, last_of}
use Rattle.grid_moves.proofs.Legal.{and_both, free_inside}
use Rattle.grid_moves.proofs.Places.{one_cell}
use Rattle.grid_moves.proofs.Short.{walk_free}
use Rattle.joined_cells.specs.Flooding.{label_at, IsSettled, AreLabelled}
use Rattle.joined_cells.specs.Joined.{Labels, IsJoined, TellsJoined, label_of, are_joined}
use Rattle.joined_cells.proofs.Joining.{joined_back, joined_on}

-- labels that are all 0
pub blank_settled : (g : GridData) (labels : List ℕ) → length labels ≡ g.height * g.width
    → ((k : ℕ) → get_or labels k 0 ≡ 0) → IsSettled g labels
blank_settled g labels whole blank = record {
  whole = whole;
  named = λ c i n. absurd (n (blank (cell_number g.width c)));
  waits = λ c w. absurd (let e = w.1 in omega arith);
  spread = λ u v l n. absurd (n (blank (cell_number g.width u)));
}

module _ (g : GridData) (labels : List ℕ) (settled : IsSettled g labels)
    (all : AreLabelled g g.height 0 labels) where
  abbrev own_labels : Labels
  own_labels = record { width = g.width; height = g.height; labels = labels }

  labelled : (c : Cell) → is_free g c ≡ true → label_at g labels c ≢ 0
  labelled c f = all.above c f (free_inside g c f).1

  -- along a walk the label stays
  along : (u : Cell) (cells : List Cell) → is_walk g (u ∷ cells) ≡ true
      → label_at g labels (last_of u cells) ≡ label_at g labels u
  along u [] w = refl
  along u (v ∷ cells) w =
      let parts = and_both (is_legal g u v) (is_walk g (v ∷ cells)) w in
      let here : label_at g labels v ≡ label_at g labels u =
      elim (settled.spread u v parts.0 (labelled u (walk_free g u (v ∷ cells) w))) [
        | inl e ↦ e
        | inr none ↦ absurd (let e = none.1 in omega arith)
      ] in
      along v cells parts.1 ∙ here

  label_inside : (c : Cell) → is_inside g c ≡ true → label_of own_labels c ≡ label_at g labels c
  label_inside c i = rw i refl

  joined_free : (s t : Cell) → IsJoined g s t → is_free g s ≡ true
  joined_free s t j = walk_free g s j.cells j.walk.legal

  inside_free : (c : Cell) → is_free g c ≡ true → is_inside g c ≡ true
  inside_free c f = (and_both (is_inside g c) (get_or g.free (cell_number g.width c) false) f).0

  one_label : (s t : Cell) → IsJoined g s t → are_joined own_labels s t ≡ true
  one_label s t j =
      let f = joined_free s t j in
      let h = joined_free t s (joined_back g s t j) in
      let same : label_at g labels t ≡ label_at g labels s =
      subst (λ (c : Cell). label_at g labels c ≡ label_at g labels s) j.walk.ends
      (along s j.cells j.walk.legal) in
      rw (label_inside s (inside_free s f), label_inside t (inside_free t h))
      (tests (label_at g labels s) (label_at g labels t) (labelled s f) same)
    where
      tests : (m n : ℕ) → m ≢ 0 → n ≡ m → (not (nat_eq m 0) && nat_eq m n) ≡ true
      tests m n a e = grind (arith, nat_tests)

  -- what one label says
  record HaveOne (s t : Cell) : Type 0 where
    first : is_inside g s ≡ true
    second : is_inside g t ≡ true
    some : label_at g labels s ≢ 0
    same : label_at g labels s ≡ label_at g labels t

  have_one : (s t : Cell) → are_joined own_labels s t ≡ true → HaveOne s t
  have_one s t e = by_tests (is_inside g s) (is_inside g t) refl refl e
    where
      by_tests : (a b : Bool) → is_inside g s ≡ a → is_inside g t ≡ b
          → (not (nat_eq (if a then label_at g labels s else 0) 0)
          && nat_eq (if a then label_at g labels s else 0) (if b then label_at g labels t else 0)) ≡ true
          → HaveOne s t
      by_tests true true p q h = record {
        first = p;
        second = q;
        some = λ z. grind (arith, nat_tests);
        same = grind (arith, nat_tests);
      }
      by_tests true false p q h = absurd (both (label_at g labels s) h)
        where
          both : (m : ℕ) → (not (nat_eq m 0) && nat_eq m 0) ≡ true → ⊥
          both m h = grind (arith, nat_tests)
      by_tests false b p q h = absurd (let x : false ≡ true = h in cc)

  are_one : (s t : Cell) → are_joined own_labels s t ≡ true → IsJoined g s t
  are_one s t e =
      let h = have_one s t e in
      let m = settled.named s h.first h.some in
      let n = settled.named t h.second (λ z. h.some (h.same ∙ z)) in
      let number : cell_number g.width m.first ≡ cell_number g.width n.first =
      one_number _ _ _ _ m.is n.is h.same in
      let one : n.first ≡ m.first = sym (one_cell g.width m.first n.first (free_inside g m.first m.free).0
      (free_inside g n.first n.free).0 number) in
      joined_on g s m.first t (joined_back g m.first s m.joined)
      (subst (λ (c : Cell). IsJoined g c t) one n.joined)
    where
      one_number : (a b m n : ℕ) → a ≡ m + 1 → b ≡ n + 1 → a ≡ b → m ≡ n
      one_number a b m n p q e = omega arith

  pub tells_joined : (width height : ℕ) → width ≡ g.width → height ≡ g.height
      → TellsJoined g (record { width = width; height = height; labels = labels })
  tells_joined width height w h =
      subst (λ (m : ℕ). TellsJoined g (record { width = m; height = height; labels = labels })) (sym w)
      (subst (λ (m : ℕ). TellsJoined g (record { width = g.width; height = m; labels = labels })) (sym h)
      (record { joined = λ s t. (are_one s t, one_label s t) }))
