-- Where the cells around a cell stand, and which of them are linked.
use Rattle.std.proofs.Common.{◌≡◌, ◌≢◌, ℕ, zero, suc, ◌+◌, ◌<◌, ◌≤◌, ◌⊎◌, inl, inr, arith, refl, sym}
use Rattle.std.proofs.Common.{Bool, true, false, ◌&&◌, ◌||◌}
use Rattle.std.specs.Prelude.{nat_eq, nat_le, not, unwrap_or}
use Rattle.std.proofs.lemmas.Bool.Decides.{nat_tests}
use Rattle.grid_moves.specs.declared.Cell.{Cell}
use Rattle.grid_moves.specs.declared.Dir.{Dir}
use Rattle.grid_moves.specs.declared.Dir.TheVariants.{N, NE, E, SE, S, SW, W, NW}
use Rattle.grid_moves.specs.Move.{before, beyond}
use Rattle.grid_moves.proofs.Ahead.{before-next}
use Rattle.grid_moves.proofs.Legal.{same_cell}
use Rattle.components.specs.Links.{IsLink}
use Rattle.components.specs.Meeting.{linked_dirs, is_among}

-- how far a cell stands off another
pub record Offset : Type 0 where
  pub west : ℕ
  pub east : ℕ
  pub north : ℕ
  pub south : ℕ

abbrev pub no_offset : Offset
no_offset = record { west = 0; east = 0; north = 0; south = 0 }

abbrev pub offset : Dir → Offset
offset N = record { west = 0; east = 0; north = 1; south = 0 }
offset NE = record { west = 0; east = 1; north = 1; south = 0 }
offset E = record { west = 0; east = 1; north = 0; south = 0 }
offset SE = record { west = 0; east = 1; north = 0; south = 1 }
offset S = record { west = 0; east = 0; north = 0; south = 1 }
offset SW = record { west = 1; east = 0; north = 0; south = 1 }
offset W = record { west = 1; east = 0; north = 0; south = 0 }
offset NW = record { west = 1; east = 0; north = 1; south = 0 }

pub record Stands (c : Cell) (o : Offset) (v : Cell) : Type 0 where
  pub column : v.x + o.west ≡ c.x + o.east
  pub row : v.y + o.north ≡ c.y + o.south

pub stands_itself : (c : Cell) → Stands c no_offset c
stands_itself c = record { column = refl; row = refl }

-- what stands before a column or row, and is no border
before_is : (n : ℕ) → unwrap_or (before n) 65535 < 4096 → unwrap_or (before n) 65535 + 1 ≡ n
before_is zero h = absurd (omega arith)
before_is (suc n) h = omega arith

pub stands : (c : Cell) (d : Dir) → (beyond d c).x < 4096 → (beyond d c).y < 4096
    → Stands c (offset d) (beyond d c)
stands c N h k = record { column = omega arith; row = let b = before_is c.y k in omega (arith, b) }
stands c NE h k = record { column = omega arith; row = let b = before_is c.y k in omega (arith, b) }
stands c E h k = record { column = omega arith; row = omega arith }
stands c SE h k = record { column = omega arith; row = omega arith }
stands c S h k = record { column = omega arith; row = omega arith }
stands c SW h k = record { column = let b = before_is c.x h in omega (arith, b); row = omega arith }
stands c W h k = record { column = let b = before_is c.x h in omega (arith, b); row = omega arith }
stands c NW h k = record {
  column = let b = before_is c.x h in omega (arith, b);
  row = let b = before_is c.y k in omega (arith, b);
}

-- cells that stand so off one cell are linked
abbrev pub are_linked : Bool → Offset → Offset → Bool
are_linked eight o p = nat_le (o.east + p.west) (p.east + o.west + 1)
    && nat_le (p.east + o.west) (o.east + p.west + 1)
    && nat_le (o.south + p.north) (p.south + o.north + 1)
    && nat_le (p.south + o.north) (o.south + p.north + 1)
    && not (nat_eq (o.east + p.west) (p.east + o.west) && nat_eq (o.south + p.north) (p.south + o.north))
    && (nat_eq (o.east + p.west) (p.east + o.west) || nat_eq (o.south + p.north) (p.south + o.north) || eight)

record AreLinked (eight : Bool) (a b m n : ℕ) : Type 0 where
  x_low : a ≤ b + 1
  x_high : b ≤ a + 1
  y_low : m ≤ n + 1
  y_high : n ≤ m + 1
  differ : a ≡ b → m ≡ n → ⊥
  lined : (a ≡ b) ⊎ (m ≡ n) ⊎ (eight ≡ true)

tested : (eight : Bool) (a b m n : ℕ) → (nat_le a (b + 1) && nat_le b (a + 1) && nat_le m (n + 1)
    && nat_le n (m + 1) && not (nat_eq a b && nat_eq m n) && (nat_eq a b || nat_eq m n || eight)) ≡ true
    → AreLinked eight a b m n
tested eight a b m n h = record {
  x_low = grind (arith, nat_tests);
  x_high = grind (arith, nat_tests);
  y_low = grind (arith, nat_tests);
  y_high = grind (arith, nat_tests);
  differ = λ e f. grind (arith, nat_tests);
  lined = grind (arith, nat_tests);
}

pub link_off : (eight : Bool) (c u v : Cell) (o p : Offset) → Stands c o u → Stands c p v
    → are_linked eight o p ≡ true → IsLink eight u v
link_off eight c u v o p s t h =
    let l = tested eight (o.east + p.west) (p.east + o.west) (o.south + p.north) (p.south + o.north) h in
    let a : u.x + o.west ≡ c.x + o.east = s.column in
    let b : v.x + p.west ≡ c.x + p.east = t.column in
    let m : u.y + o.north ≡ c.y + o.south = s.row in
    let n : v.y + p.north ≡ c.y + p.south = t.row in
    let x_low : o.east + p.west ≤ p.east + o.west + 1 = l.x_low in
    let x_high : p.east + o.west ≤ o.east + p.west + 1 = l.x_high in
    let y_low : o.south + p.north ≤ p.south + o.north + 1 = l.y_low in
    let y_high : p.south + o.north ≤ o.south + p.north + 1 = l.y_high in
    record {
      x_low = omega arith;
      x_high = omega arith;
      y_low = omega arith;
      y_high = omega arith;
      differ = λ e f. l.differ (omega arith) (omega arith);
      lined = elim l.lined [
        | inl e ↦ inl (omega arith)
        | inr (inl e) ↦ inr (inl (omega arith))
        | inr (inr e) ↦ inr (inr e)
      ];
    }

-- the neighbours in these directions are linked
pub among_linked : (eight : Bool) (d : Dir) → is_among d (linked_dirs eight) ≡ true
    → are_linked eight no_offset (offset d) ≡ true
among_linked true N h = refl
among_linked true NE h = refl
among_linked true E h = refl
among_linked true SE h = refl
among_linked true S h = refl
among_linked true SW h = refl
among_linked true W h = refl
among_linked true NW h = refl
among_linked false N h = refl
among_linked false NE h = absurd (let x : false ≡ true = h in cc)
among_linked false E h = refl
among_linked false SE h = absurd (let x : false ≡ true = h in cc)
among_linked false S h = refl
among_linked false SW h = absurd (let x : false ≡ true = h in cc)
among_linked false W h = refl
among_linked false NW h = absurd (let x : false ≡ true = h in cc)

-- and no others
pub record HasDir (eight : Bool) (c v : Cell) : Type 0 where
  pub dir : Dir
  pub is : beyond dir c ≡ v
  pub among : is_among dir (linked_dirs eight) ≡ true

three : (m n : ℕ) → m ≤ n + 1 → n ≤ m + 1 → (n ≡ m + 1) ⊎ (n ≡ m) ⊎ (m ≡ n + 1)
three m n h k = grind arith

past : (m n : ℕ) → m ≡ n + 1 → unwrap_or (before m) 65535 ≡ n
past m n e = rw (before-next m n e) refl

pub straight : (eight : Bool) (d : Dir) → is_among d (linked_dirs false) ≡ true
    → is_among d (linked_dirs eight) ≡ true
straight false d h = h
straight true N h = refl
straight true NE h = refl
straight true E h = refl
straight true SE h = refl
straight true S h = refl
straight true SW h = refl
straight true W h = refl
straight true NW h = refl

pub any_dir : (d : Dir) → is_among d (linked_dirs true) ≡ true
any_dir N = refl
any_dir NE = refl
any_dir E = refl
any_dir SE = refl
any_dir S = refl
any_dir SW = refl
any_dir W = refl
any_dir NW = refl

module _ (eight : Bool) (c v : Cell) (l : IsLink eight c v) where
  at_corner : (d : Dir) → beyond d c ≡ v → c.x ≢ v.x → c.y ≢ v.y → HasDir eight c v
  at_corner d is n m = record {
    dir = d;
    is = is;
    among = elim l.lined [
      | inl e ↦ absurd (n e)
      | inr (inl e) ↦ absurd (m e)
      | inr (inr e) ↦ rw e (any_dir d)
    ];
  }

  beside : (d : Dir) → is_among d (linked_dirs false) ≡ true → beyond d c ≡ v → HasDir eight c v
  beside d h is = record { dir = d; is = is; among = straight eight d h }

  pub has_dir : HasDir eight c v
  has_dir = elim (three c.x v.x l.x_low l.x_high) [
    | inl x ↦ elim (three c.y v.y l.y_low l.y_high) [
      | inl y ↦ at_corner SE (same_cell (beyond SE c) v (sym x) (sym y)) (λ e. omega arith) (λ e. omega arith)
      | inr (inl y) ↦ beside E refl (same_cell (beyond E c) v (sym x) (sym y))
      | inr (inr y) ↦ at_corner NE (same_cell (beyond NE c) v (sym x) (past c.y v.y y)) (λ e. omega arith)
          (λ e. omega arith)
    ]
    | inr (inl x) ↦ elim (three c.y v.y l.y_low l.y_high) [
      | inl y ↦ beside S refl (same_cell (beyond S c) v (sym x) (sym y))
      | inr (inl y) ↦ absurd (l.differ (sym x) (sym y))
      | inr (inr y) ↦ beside N refl (same_cell (beyond N c) v (sym x) (past c.y v.y y))
    ]
    | inr (inr x) ↦ elim (three c.y v.y l.y_low l.y_high) [
      | inl y ↦ at_corner SW (same_cell (beyond SW c) v (past c.x v.x x) (sym y)) (λ e. omega arith)
          (λ e. omega arith)
      | inr (inl y) ↦ beside W refl (same_cell (beyond W c) v (past c.x v.x x) (sym y))
      | inr (inr y) ↦ at_corner NW (same_cell (beyond NW c) v (past c.x v.x x) (past c.y v.y y))
          (λ e. omega arith) (λ e. omega arith)
    ]
  ]
