-- What an edit leaves of the labels.
use Rattle.std.proofs.Common.{◌≡◌, ◌≢◌, ℕ, ◌<◌, ◌≤◌, inl, inr, arith, refl, ap, sym, ◌∙◌, subst}
use Rattle.std.proofs.Common.{Bool, true, false, List, length}
use Rattle.std.specs.Prelude.{nat_eq, not, IsTrue}
use Rattle.std.proofs.lemmas.Bool.Decides.{nat_tests}
use mathlib.Core.Bool.{beq}
use Rattle.grid_moves.specs.declared.Cell.{Cell}
use Rattle.grid_moves.specs.declared.Corner.{Corner}
use Rattle.grid_moves.specs.Grid.{GridData, IsGrid, grid_with, is_free, is_inside}
use Rattle.grid_moves.specs.Move.{may_slip}
use Rattle.grid_moves.proofs.Places.{inside_from}
use Rattle.joined_cells.specs.Joined.{label_of}
use Rattle.components.proofs.Cases.{true_or_false}
use Rattle.components.specs.declared.shape.Shape.{Shape}
use Rattle.components.specs.Classes.{root_of}
use Rattle.components.specs.Kept.{KeptLabels, Tells}
use Rattle.components.specs.Walls.{AreJoined, is_labelled}
use Rattle.components.specs.Links.{Adds, IsLink, TellsLinked}
use Rattle.components.specs.Stored.{AreKept, AreStored, class_in, classes_in, labels_in}
use Rattle.components.proofs.Chains.{blocked, chain_more, freed, link_apart, one_or_other}
use Rattle.components.proofs.Walking.{label_some, labelled}
use Rattle.components.proofs.Roots.{root-some}
use Rattle.components.proofs.Storing.{label_low, put, put_elsewhere, put_here, seen_class}
use Rattle.components.proofs.Telling.{edited_as_is, edited_grid, edited_here, edited_others, tells_alike}
use Rattle.components.proofs.Telling.{tells_links, tells_walks}

-- what a contract sees
abbrev pub seen : Shape → Corner → List ℕ → List ℕ → Bool → KeptLabels
seen shape corner labels classes fresh =
    record { labels = classes_in shape labels classes; corner = corner; fresh = fresh }

-- labels that tell what is linked, as a contract sees them
pub seen_tells : (g : GridData) (shape : Shape) (corner : Corner) (labels classes : List ℕ) (fresh : Bool)
    → IsGrid g → shape.width ≡ g.width → shape.height ≡ g.height → corner ≡ g.corner
    → shape.eight ≡ may_slip corner
    → (IsTrue fresh → TellsLinked shape.eight (is_free g) (class_in shape labels classes))
    → Tells g (seen shape corner labels classes fresh)
seen_tells g shape corner labels classes fresh grid w h r e tells = record {
  grid = grid;
  made_for = record { width = w; height = h; corner = r };
  joined = λ f. tells_walks g (classes_in shape labels classes) (class_in shape labels classes)
      (seen_class shape labels classes) (subst (λ (b : Bool). TellsLinked b (is_free g)
      (class_in shape labels classes)) (e ∙ ap (λ (k : Corner). may_slip k) r) (tells f));
}

module _ (shape : Shape) (corner : Corner) (used : ℕ) (labels classes : List ℕ)
    (kept : AreKept shape corner used labels classes) (c : Cell) (column : c.x < shape.width)
    (row : c.y < shape.height) (g : GridData) (fresh : Bool)
    (tells : Tells g (seen shape corner labels classes fresh)) where
  abbrev pub stored : AreStored shape used labels classes
  stored = kept.stored

  inside : is_inside g c ≡ true
  inside =
      let w : shape.width ≡ g.width = tells.made_for.width in
      let h : shape.height ≡ g.height = tells.made_for.height in
      inside_from g c (omega arith) (omega arith)

  eight : shape.eight ≡ may_slip g.corner
  eight = kept.eight ∙ ap (λ (k : Corner). may_slip k) tells.made_for.corner

  links : fresh ≡ true → TellsLinked shape.eight (is_free g) (class_in shape labels classes)
  links f = subst (λ (b : Bool). TellsLinked b (is_free g) (class_in shape labels classes)) (sym eight)
      (tells_links g (classes_in shape labels classes) (class_in shape labels classes)
      (seen_class shape labels classes) (tells.joined f))

  -- after the edit
  edited : (free : Bool) (labels_now classes_now : List ℕ) (fresh_now : Bool)
      → (IsTrue fresh_now → TellsLinked shape.eight (is_free (grid_with g c free))
      (class_in shape labels_now classes_now))
      → Tells (grid_with g c free) (seen shape corner labels_now classes_now fresh_now)
  edited free labels_now classes_now fresh_now told = seen_tells (grid_with g c free) shape corner labels_now
      classes_now fresh_now (edited_grid g tells.grid c inside free) tells.made_for.width
      tells.made_for.height
      tells.made_for.corner kept.eight told

  pub edited_stale : (free : Bool) (labels_now classes_now : List ℕ)
      → Tells (grid_with g c free) (seen shape corner labels_now classes_now false)
  edited_stale free labels_now classes_now = edited free labels_now classes_now false
      (λ e. absurd (let x : false ≡ true = e in cc))

  -- a cell has a label exactly where it is free
  classed : (u : Cell) → label_of (labels_in shape labels) u ≢ 0 → class_in shape labels classes u ≢ 0
  classed u n = root-some classes stored.forest (label_of (labels_in shape labels) u) n
      (let l : label_of (labels_in shape labels) u ≤ used = label_low shape labels used stored.below u in
      let k : used < length classes = stored.given in omega arith)

  labelled_free : fresh ≡ true → (u : Cell) → label_of (labels_in shape labels) u ≢ 0 → is_free g u ≡ true
  labelled_free f u n = elim (true_or_false (is_free g u)) [
    | inl h ↦ h
    | inr h ↦ absurd (classed u n ((links f).none u h))
  ]

  free_labelled : fresh ≡ true → (u : Cell) → is_free g u ≡ true → label_of (labels_in shape labels) u ≢ 0
  free_labelled f u h z = (links f).some u h (ap (λ (l : ℕ). root_of classes l) z)

  -- nothing changes
  pub edited_same : (free : Bool) → free ≡ not (nat_eq (label_of (labels_in shape labels) c) 0) → fresh ≡ true
      → Tells (grid_with g c free) (seen shape corner labels classes fresh)
  edited_same free e f = edited free labels classes fresh (λ h. tells_alike shape.eight (is_free g)
      (is_free (grid_with g c free)) (class_in shape labels classes) (edited_as_is g tells.grid c inside free
      (by_test (nat_eq (label_of (labels_in shape labels) c) 0) refl ∙ sym e)) (links f))
    where
      is_zero : (n : ℕ) → nat_eq n 0 ≡ true → n ≡ 0
      is_zero n h = grind (arith, nat_tests)

      not_zero : (n : ℕ) → nat_eq n 0 ≡ false → n ≢ 0
      not_zero n h z = grind (arith, nat_tests)

      by_test : (b : Bool) → nat_eq (label_of (labels_in shape labels) c) 0 ≡ b
          → is_free g c ≡ not (nat_eq (label_of (labels_in shape labels) c) 0)
      by_test true h = (elim (true_or_false (is_free g c)) [
        | inl k ↦ absurd (free_labelled f c k (is_zero (label_of (labels_in shape labels) c) h))
        | inr k ↦ k
      ]) ∙ sym (ap (λ (b : Bool). not b) h)
      by_test false h = labelled_free f c (not_zero (label_of (labels_in shape labels) c) h)
          ∙ sym (ap (λ (b : Bool). not b) h)

  -- a cell is freed
  pub edited_freed : fresh ≡ true → label_of (labels_in shape labels) c ≡ 0
      → (labels_now classes_now : List ℕ)
      → Adds shape.eight c (class_in shape labels classes) (class_in shape labels_now classes_now)
      → Tells (grid_with g c true) (seen shape corner labels_now classes_now fresh)
  edited_freed f none labels_now classes_now adds = edited true labels_now classes_now fresh (λ h.
      freed shape.eight (is_free g) (is_free (grid_with g c true)) c shut
      (edited_here g tells.grid c inside true) (edited_others g tells.grid c inside true)
      (class_in shape labels classes) (class_in shape labels_now classes_now) (links f) adds)
    where
      shut : is_free g c ≡ false
      shut = elim (true_or_false (is_free g c)) [
        | inl h ↦ absurd (free_labelled f c h none)
        | inr h ↦ h
      ]

  -- a cell is blocked
  module _ (f : fresh ≡ true) where
    abbrev left : Cell → Bool
    left = is_labelled (labels_in shape (put shape labels stored.whole c column row 0))

    shut : is_free (grid_with g c false) c ≡ false
    shut = edited_here g tells.grid c inside false

    left_free : (u : Cell) → left u ≡ true → is_free (grid_with g c false) u ≡ true
    left_free u h =
        let n = label_some (labels_in shape (put shape labels stored.whole c column row 0)) u h in
        elim (one_or_other u c) [
          | inl e ↦ absurd (n (ap (λ (v : Cell).
              label_of (labels_in shape (put shape labels stored.whole c column row 0)) v) e
              ∙ put_here shape labels stored.whole c column row 0))
          | inr o ↦ edited_others g tells.grid c inside false u o
              ∙ labelled_free f u (λ z. n (put_elsewhere shape labels stored.whole c column row 0 u o ∙ z))
        ]

    free_left : (u : Cell) → is_free g u ≡ true → IsLink shape.eight c u → left u ≡ true
    free_left u p k =
        let o : u ≢ c = λ s. link_apart shape.eight c u k (sym s) in
        labelled (labels_in shape (put shape labels stored.whole c column row 0)) u (λ z. free_labelled f u p
        (sym (put_elsewhere shape labels stored.whole c column row 0 u o) ∙ z))

    pub edited_blocked : (whole : Bool) → (whole ≡ true → AreJoined shape.eight left c)
        → Tells (grid_with g c false)
        (seen shape corner (put shape labels stored.whole c column row 0) classes whole)
    edited_blocked whole joined = edited false (put shape labels stored.whole c column row 0) classes whole
        (λ h. blocked shape.eight (is_free g) (is_free (grid_with g c false)) c shut
        (edited_others g tells.grid c inside false) (class_in shape labels classes)
        (class_in shape (put shape labels stored.whole c column row 0) classes) (links f)
        (ap (λ (l : ℕ). root_of classes l) (put_here shape labels stored.whole c column row 0))
        (λ u o. ap (λ (l : ℕ). root_of classes l)
        (put_elsewhere shape labels stored.whole c column row 0 u o))
        (λ u v p q k l. chain_more shape.eight left (is_free (grid_with g c false)) left_free v u
        (joined h u v (free_left u p k) (free_left v q l) k l)))

-- the test of an edit that changes nothing
pub same_bools : (a b : Bool) → beq a b ≡ true → a ≡ b
same_bools true true e = refl
same_bools true false e = absurd (let x : false ≡ true = e in cc)
same_bools false true e = absurd (let x : false ≡ true = e in cc)
same_bools false false e = refl

pub differ : (free : Bool) (label : ℕ) → free ≡ true → beq free (not (nat_eq label 0)) ≡ false → label ≡ 0
differ free label f e = by_test (nat_eq label 0) refl
    (subst (λ (b : Bool). beq b (not (nat_eq label 0)) ≡ false) f e)
  where
    is_zero : (n : ℕ) → nat_eq n 0 ≡ true → n ≡ 0
    is_zero n h = grind (arith, nat_tests)

    by_test : (b : Bool) → nat_eq label 0 ≡ b → beq true (not b) ≡ false → label ≡ 0
    by_test true h k = is_zero label h
    by_test false h k = absurd (let x : true ≡ false = k in cc)
