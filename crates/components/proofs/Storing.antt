-- The labels of cells in memory.
use Rattle.std.proofs.Common.{◌≡◌, ◌≢◌, ℕ, ◌+◌, ◌*◌, ◌<◌, ◌≤◌, inl, inr, arith, refl, sym, ◌∙◌, subst}
use Rattle.std.proofs.Common.{Bool, true, false, ◌&&◌, List, length, get_or, set, length-set}
use Rattle.std.specs.Prelude.{nat_lt, if◌then◌else◌}
use Rattle.std.proofs.lemmas.Bool.Decides.{nat_tests}
use Rattle.std.proofs.lemmas.List.{get_or-set_same, get_or-set_other}
use Rattle.std.proofs.Math.ListN.{get_or-map}
use Rattle.grid_moves.specs.declared.Cell.{Cell}
use Rattle.grid_moves.specs.declared.Dir.{Dir}
use Rattle.grid_moves.specs.Grid.{AreSides, cell_number}
use Rattle.grid_moves.specs.Move.{beyond}
use Rattle.grid_moves.proofs.Places.{number_below, one_cell}
use Rattle.joined_cells.specs.Joined.{Labels, label_of}
use Rattle.components.proofs.Cases.{one_or_not}
use Rattle.components.specs.declared.shape.Shape.{Shape}
use Rattle.components.specs.Classes.{root_of}
use Rattle.components.specs.Links.{IsLink, Adds}
use Rattle.components.specs.Meeting.{Gathers, linked_dirs, is_among}
use Rattle.components.specs.Stored.{AreFit, AreStored, class_in, classes_in, labels_in}
use Rattle.components.proofs.Gathering.{adds_met, adds_new}
use Rattle.components.proofs.Offsets.{among_linked, link_off, no_offset, offset, stands, stands_itself}
use Rattle.components.proofs.Roots.{root-down, root-itself, root-new, root-some}

pub record IsOnMap (p : Labels) (c : Cell) : Type 0 where
  pub column : c.x < p.width
  pub row : c.y < p.height

-- what lies outside has no label
pub labelled_inside : (p : Labels) (c : Cell) → label_of p c ≢ 0 → IsOnMap p c
labelled_inside p c n = by_test (nat_lt c.x p.width && nat_lt c.y p.height) refl
  where
    on : (x y w h : ℕ) → (nat_lt x w && nat_lt y h) ≡ true → (x < w) × (y < h)
    on x y w h e = (grind (arith, nat_tests), grind (arith, nat_tests))

    by_test : (b : Bool) → (nat_lt c.x p.width && nat_lt c.y p.height) ≡ b → IsOnMap p c
    by_test true e = let o = on c.x c.y p.width p.height e in record { column = o.0; row = o.1 }
    by_test false e = absurd (n (rw e refl))

pub label_inside : (p : Labels) (c : Cell) → c.x < p.width → c.y < p.height
    → label_of p c ≡ get_or p.labels (cell_number p.width c) 0
label_inside p c x y = rw (on c.x c.y p.width p.height x y) refl
  where
    on : (x y w h : ℕ) → x < w → y < h → (nat_lt x w && nat_lt y h) ≡ true
    on x y w h a b = grind (arith, nat_tests)

-- the neighbours that have labels are linked
pub labelled_link : (shape : Shape) (labels : List ℕ) → AreSides shape.width shape.height
    → (c : Cell) (d : Dir)
    → is_among d (linked_dirs shape.eight) ≡ true → label_of (labels_in shape labels) (beyond d c) ≢ 0
    → IsLink shape.eight c (beyond d c)
labelled_link shape labels sides c d i n =
    let on = labelled_inside (labels_in shape labels) (beyond d c) n in
    let x : (beyond d c).x < shape.width = on.column in
    let y : (beyond d c).y < shape.height = on.row in
    let w : shape.width ≤ 4096 = sides.narrow in
    let h : shape.height ≤ 4096 = sides.low in
    link_off shape.eight c c (beyond d c) no_offset (offset d) (stands_itself c)
    (stands c d (omega arith) (omega arith)) (among_linked shape.eight d i)

-- the class that a contract sees
pub seen_class : (shape : Shape) (labels classes : List ℕ) (c : Cell)
    → label_of (classes_in shape labels classes) c ≡ class_in shape labels classes c
seen_class shape labels classes c = by_test (nat_lt c.x shape.width && nat_lt c.y shape.height) refl
  where
    by_test : (b : Bool) → (nat_lt c.x shape.width && nat_lt c.y shape.height) ≡ b
        → label_of (classes_in shape labels classes) c ≡ class_in shape labels classes c
    by_test true e = rw e (get_or-map (root_of classes) labels (cell_number shape.width c) 0)
    by_test false e = rw e refl

-- a cell gets a label
module _ (shape : Shape) (labels : List ℕ) (whole : length labels ≡ shape.height * shape.width) (c : Cell)
    (column : c.x < shape.width) (row : c.y < shape.height) (label : ℕ) where
  abbrev pub put : List ℕ
  put = set labels (cell_number shape.width c) label

  pub put_here : label_of (labels_in shape put) c ≡ label
  put_here = label_inside (labels_in shape put) c column row
      ∙ get_or-set_same labels (cell_number shape.width c) label 0
      (let b : cell_number shape.width c < shape.height * shape.width
      = number_below shape.width shape.height c column row in omega arith)

  pub put_elsewhere : (u : Cell) → u ≢ c → label_of (labels_in shape put) u
      ≡ label_of (labels_in shape labels) u
  put_elsewhere u o = by_test (nat_lt u.x shape.width && nat_lt u.y shape.height) refl
    where
      on : (x y w h : ℕ) → (nat_lt x w && nat_lt y h) ≡ true → x < w
      on x y w h e = grind (arith, nat_tests)

      by_test : (b : Bool) → (nat_lt u.x shape.width && nat_lt u.y shape.height) ≡ b
          → label_of (labels_in shape put) u ≡ label_of (labels_in shape labels) u
      by_test true e = rw e (get_or-set_other labels (cell_number shape.width c) (cell_number shape.width u)
          label 0 (λ same. o (one_cell shape.width u c (on u.x u.y shape.width shape.height e) column same)))
      by_test false e = rw e refl

  pub put_whole : length put ≡ shape.height * shape.width
  put_whole = length-set labels (cell_number shape.width c) label ∙ whole

  pub put_below : (most : ℕ) → ((k : ℕ) → get_or labels k 0 ≤ most) → label ≤ most → (k : ℕ)
      → get_or put k 0 ≤ most
  put_below most below le k = elim (one_or_not k (cell_number shape.width c)) [
    | inl e ↦ subst (λ (j : ℕ). get_or put j 0 ≤ most) (sym e)
        (let s : get_or put (cell_number shape.width c) 0 ≡ label
        = get_or-set_same labels (cell_number shape.width c) label 0
        (let b : cell_number shape.width c < shape.height * shape.width
        = number_below shape.width shape.height c column row in omega arith) in omega arith)
    | inr n ↦
        let s : get_or put k 0 ≡ get_or labels k 0
        = get_or-set_other labels (cell_number shape.width c) k label 0 n in
        let b : get_or labels k 0 ≤ most = below k in
        omega arith
  ]

pub label_low : (shape : Shape) (labels : List ℕ) (most : ℕ)
    → ((k : ℕ) → get_or labels k 0 ≤ most) → (c : Cell)
    → label_of (labels_in shape labels) c ≤ most
label_low shape labels most below c = by_test (nat_lt c.x shape.width && nat_lt c.y shape.height)
  where
    by_test : (b : Bool) → (if b then get_or labels (cell_number shape.width c) 0 else 0) ≤ most
    by_test true = below (cell_number shape.width c)
    by_test false = omega arith

pub stored_fit : (shape : Shape) (used : ℕ) (labels classes : List ℕ) → AreStored shape used labels classes
    → AreFit shape labels classes
stored_fit shape used labels classes s = record {
  sides = s.sides;
  whole = s.whole;
  forest = s.forest;
  below = λ k. let b : get_or labels k 0 ≤ used = s.below k in let g : used < length classes = s.given in
      omega arith;
}

-- a cell without a class has no label
pub blank_label : (shape : Shape) (used : ℕ) (labels classes : List ℕ) → AreStored shape used labels classes
    → (c : Cell) → class_in shape labels classes c ≡ 0 → label_of (labels_in shape labels) c ≡ 0
blank_label shape used labels classes stored c z = elim (one_or_not (label_of (labels_in shape labels) c) 0) [
  | inl e ↦ e
  | inr n ↦ absurd (root-some classes stored.forest (label_of (labels_in shape labels) c) n
      (let l : label_of (labels_in shape labels) c ≤ used = label_low shape labels used stored.below c in
      let k : used < length classes = stored.given in omega arith) z)
]

-- the neighbours have met
module _ (shape : Shape) (used : ℕ) (labels classes later : List ℕ)
    (stored : AreStored shape used labels classes) (fit : AreFit shape labels later)
    (long : length later ≡ length classes) (c : Cell) (column : c.x < shape.width) (row : c.y < shape.height)
    (label : ℕ)
    (g : Gathers shape.eight c (label_of (labels_in shape labels)) (linked_dirs shape.eight) (root_of classes)
    (root_of later) label) where
  low : (u : Cell) → label_of (labels_in shape labels) u ≤ used
  low u = label_low shape labels used stored.below u

  old_some : (u : Cell) → label_of (labels_in shape labels) u ≢ 0
      → root_of classes (label_of (labels_in shape labels) u) ≢ 0
  old_some u n = root-some classes stored.forest (label_of (labels_in shape labels) u) n
      (let l : label_of (labels_in shape labels) u ≤ used = low u in
      let k : used < length classes = stored.given in omega arith)

  now_some : (u : Cell) → label_of (labels_in shape labels) u ≢ 0
      → root_of later (label_of (labels_in shape labels) u) ≢ 0
  now_some u n = root-some later fit.forest (label_of (labels_in shape labels) u) n
      (let l : label_of (labels_in shape labels) u ≤ used = low u in
      let k : used < length classes = stored.given in omega arith)

  -- the label is that of a neighbour
  pub adds_old : label ≢ 0 → label ≤ used → Adds shape.eight c (class_in shape labels classes)
      (class_in shape (put shape labels stored.whole c column row label) later)
  adds_old some le = adds_met shape.eight c (label_of (labels_in shape labels))
      (label_of (labels_in shape (put shape labels stored.whole c column row label))) (root_of classes)
      (root_of later) label label g (put_here shape labels stored.whole c column row label)
      (put_elsewhere shape labels stored.whole c column row label) refl old_some refl some refl
      (root-some later fit.forest label some (let k : used < length classes = stored.given in omega arith))
      now_some

  -- it is a new one
  pub adds_another : label ≡ 0 → used + 1 < length classes
      → Adds shape.eight c (class_in shape labels classes)
      (class_in shape (put shape labels stored.whole c column row (used + 1))
      (set later (used + 1) (used + 1)))
  adds_another none room =
      let within : used + 1 < length later = omega arith in
      let some : used + 1 ≢ 0 = λ z. omega arith in
      adds_new shape.eight c (label_of (labels_in shape labels))
      (label_of (labels_in shape (put shape labels stored.whole c column row (used + 1))))
      (root_of classes) (root_of later) label (used + 1) g
      (put_here shape labels stored.whole c column row (used + 1))
      (put_elsewhere shape labels stored.whole c column row (used + 1)) refl old_some
      (root_of (set later (used + 1) (used + 1))) none refl now_some
      (λ z. some (sym (own within) ∙ z))
      (λ u. root-new later fit.forest (used + 1) (label_of (labels_in shape labels) u)
      (let l : label_of (labels_in shape labels) u ≤ used = low u in omega arith))
      (λ u e.
      let l : label_of (labels_in shape labels) u ≤ used = low u in
      let d : root_of later (label_of (labels_in shape labels) u) ≤ label_of (labels_in shape labels) u
      = root-down later fit.forest.down (label_of (labels_in shape labels) u) in
      let o : root_of (set later (used + 1) (used + 1)) (used + 1) ≡ used + 1 = own within in
      omega arith)
    where
      own : used + 1 < length later → root_of (set later (used + 1) (used + 1)) (used + 1) ≡ used + 1
      own within = root-itself (set later (used + 1) (used + 1)) (used + 1)
          (get_or-set_same later (used + 1) (used + 1) 0 within)
