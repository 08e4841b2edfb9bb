-- A legal move that is not kept leads where the parent's move is legal too.
use Rattle.std.proofs.lemmas.Bool.Decides.{nat_tests}
use Rattle.std.proofs.Common.{◌≡◌, ℕ, ◌+◌, ◌⊎◌, inl, inr, refl, ap, sym, ◌∙◌, arith, Bool, true, false, ◌&&◌}
use Rattle.std.proofs.Common.{◌||◌, not}
use Rattle.std.specs.Prelude.{Some}
use Rattle.std.proofs.lemmas.Bool.{cases_Bool}
use Rattle.grid_moves.specs.declared.Cell.{Cell}
use Rattle.grid_moves.specs.declared.Dir.{Dir}
use Rattle.grid_moves.specs.declared.Dir.TheVariants.{N, NE, E, SE, S, SW, W, NW}
use Rattle.grid_moves.specs.declared.around.Around.{Around}
use Rattle.grid_moves.specs.Around.{IsAround, end_of, is_open_to}
use Rattle.grid_moves.specs.Grid.{GridData, is_free}
use Rattle.grid_moves.specs.Move.{is_legal, is_same, corner_of, ahead, legal_ahead, column_ahead, row_ahead}
use Rattle.grid_moves.proofs.Ahead.{legal_ahead-is, legal_ahead-ahead}
use Rattle.grid_moves.proofs.Legal.{legal_is, same_cell, and_both}
use Rattle.plain_search.specs.declared.moves.Behind.{Behind}
use Rattle.plain_search.specs.Offers.{less_offered}
use Rattle.plain_search.proofs.Leaving.{LiesAt, some_number, before_is, ahead_parts, beside_in_row}
use Rattle.plain_search.proofs.Leaving.{beside_in_column, at_corner}

-- a straight move that is not kept
not_kept : (away toward beside beyond : Bool) → (true && (away || not (toward || beside || beyond))) ≡ false
    → (away ≡ false) × ((toward ≡ true) ⊎ (beside ≡ true) ⊎ (beyond ≡ true))
not_kept away toward beside beyond h1 = grind (arith, nat_tests)

-- a diagonal move that is not kept
not_kept_diagonal : (column row p q : Bool) → (true && (column || row || not (p || q))) ≡ false
    → (column ≡ false) × (row ≡ false)
not_kept_diagonal true r p q h = absurd (cc)
not_kept_diagonal false true p q h = absurd (cc)
not_kept_diagonal false false p q h = (refl, refl)

-- what is open leads ahead
pub record LeadsTo (g : GridData) (c : Cell) (d : Dir) (v : Cell) : Type 0 where
  pub legal : is_legal g c v ≡ true
  pub ahead_is : ahead d c ≡ Some v

pub leads : (g : GridData) (c : Cell) (d : Dir) (v : Cell) → legal_ahead g c d ≡ Some v → LeadsTo g c d v
leads g c d v e = record { legal = legal_ahead-is g c v d e; ahead_is = legal_ahead-ahead g c v d e }

pub open_leads : (g : GridData) (c : Cell) (a : Around) (d : Dir) → IsAround g c a → is_open_to a d ≡ true
    → LeadsTo g c d (end_of a c d)
open_leads g c a d i h = leads g c d (end_of a c d) (sym (i d) ∙ rw h refl)

module _ (g : GridData) (p x v : Cell) (a : Around) (s : Behind) (around : IsAround g x a)
    (lies : LiesAt p x s) (into : is_legal g p x ≡ true) (other : is_same p v ≡ false) where
  -- the columns of p, if it doesn't lie on the left, and if not on the right
  column_right : s.left ≡ false → v.x ≡ x.x + 1 → (p.x ≡ x.x) ⊎ (p.x ≡ v.x)
  column_right l e = elim (cases_Bool s.right)
      [ inl r ↦ inr (lies.right r ∙ sym e) | inr r ↦ inl (lies.column l r) ]

  column_left : s.right ≡ false → x.x ≡ v.x + 1 → (p.x ≡ x.x) ⊎ (p.x ≡ v.x)
  column_left h1 h2 = grind (arith, nat_tests, cases_Bool)

  row_above : s.below ≡ false → x.y ≡ v.y + 1 → (p.y ≡ x.y) ⊎ (p.y ≡ v.y)
  row_above h1 h2 = grind (arith, nat_tests, cases_Bool)

  row_below : s.above ≡ false → v.y ≡ x.y + 1 → (p.y ≡ x.y) ⊎ (p.y ≡ v.y)
  row_below u e = elim (cases_Bool s.below)
      [ inl b ↦ inr (lies.below b ∙ sym e) | inr b ↦ inl (lies.row u b) ]

  further : (m n : ℕ) → Some (m + 1) ≡ Some n → n ≡ m + 1
  further m n f = cc

  -- an open corner is free
  corner_free : (d : Dir) → is_open_to a d ≡ true → (q : Cell)
      → ((column_ahead d x.x ≡ Some (end_of a x d).x) × (row_ahead d x.y ≡ Some (end_of a x d).y)
      → (q.x ≡ (end_of a x d).x) × (q.y ≡ (end_of a x d).y)) → is_free g q ≡ true
  corner_free d h q f =
      let l = open_leads g x a d around h in
      let e = f (ahead_parts d x (end_of a x d) l.ahead_is) in
      ap (λ (w : Cell). is_free g w) (same_cell q (end_of a x d) e.0 e.1)
      ∙ (legal_is g x (end_of a x d) l.legal).target

  -- the move was left out, and the parent leads there
  module _ (on : is_legal g x v ≡ true) where
    by_column : (e : (v.y ≡ x.y)) → (p.x ≡ x.x) ⊎ (p.x ≡ v.x)
        → ((p.x ≡ x.x) → (is_free g (corner_of v p) ≡ true) ⊎ (p.x ≡ v.x)) → is_legal g p v ≡ true
    by_column e (inr f) c = beside_in_row g p x v into on other e (inl f)
    by_column e (inl f) c = elim (c f) [
      | inl free ↦ beside_in_row g p x v into on other e (inr (f, free))
      | inr h ↦ beside_in_row g p x v into on other e (inl h)
    ]

    by_row : (e : (v.x ≡ x.x)) → (p.y ≡ x.y) ⊎ (p.y ≡ v.y)
        → ((p.y ≡ x.y) → (is_free g (corner_of p v) ≡ true) ⊎ (p.y ≡ v.y)) → is_legal g p v ≡ true
    by_row e (inr f) c = beside_in_column g p x v into on other e (inl f)
    by_row e (inl f) c = elim (c f) [
      | inl free ↦ beside_in_column g p x v into on other e (inr (f, free))
      | inr h ↦ beside_in_column g p x v into on other e (inl h)
    ]

    pub dropped : (d : Dir) → ahead d x ≡ Some v → is_open_to a d ≡ true
        → is_open_to (less_offered a s) d ≡ false → is_legal g p v ≡ true
    dropped NE h o n =
        let q = ahead_parts NE x v h in
        let k = not_kept_diagonal s.left s.below s.right s.above (rw o at n) in
        at_corner g p x v into on other (column_right k.0 (further x.x v.x q.0))
        (row_above k.1 (before_is x.y v.y q.1))
    dropped SE h o n =
        let q = ahead_parts SE x v h in
        let k = not_kept_diagonal s.left s.above s.right s.below (rw o at n) in
        at_corner g p x v into on other (column_right k.0 (further x.x v.x q.0))
        (row_below k.1 (further x.y v.y q.1))
    dropped SW h o n =
        let q = ahead_parts SW x v h in
        let k = not_kept_diagonal s.right s.above s.left s.below (rw o at n) in
        at_corner g p x v into on other (column_left k.0 (before_is x.x v.x q.0))
        (row_below k.1 (further x.y v.y q.1))
    dropped NW h o n =
        let q = ahead_parts NW x v h in
        let k = not_kept_diagonal s.right s.below s.left s.above (rw o at n) in
        at_corner g p x v into on other (column_left k.0 (before_is x.x v.x q.0))
        (row_above k.1 (before_is x.y v.y q.1))
    dropped E h o n =
        let q = ahead_parts E x v h in
        let k = not_kept s.left s.right (s.above && a.ne) (s.below && a.se) (rw o at n) in
        let right : v.x ≡ x.x + 1 = further x.x v.x q.0 in
        by_column (sym (some_number x.y v.y q.1)) (column_right k.0 right) (λ f. elim k.1 [
          | inl r ↦ inr (lies.right r ∙ sym right)
          | inr (inl b) ↦ inl (let t = and_both s.above a.ne b in corner_free NE t.1 (corner_of v p)
              (λ w. (
                right ∙ sym (further x.x a.right w.0),
                (let m = before_is x.y a.up w.1 in let l = lies.above t.0 in omega arith),
              )))
          | inr (inr b) ↦ inl (let t = and_both s.below a.se b in corner_free SE t.1 (corner_of v p)
              (λ w. (right ∙ sym (further x.x a.right w.0), lies.below t.0 ∙ sym (further x.y a.down w.1))))
        ])
    dropped W h o n =
        let q = ahead_parts W x v h in
        let k = not_kept s.right s.left (s.above && a.nw) (s.below && a.sw) (rw o at n) in
        let left : x.x ≡ v.x + 1 = before_is x.x v.x q.0 in
        by_column (sym (some_number x.y v.y q.1)) (column_left k.0 left) (λ f. elim k.1 [
          | inl l ↦ inr (let m = lies.left l in omega arith)
          | inr (inl b) ↦ inl (let t = and_both s.above a.nw b in corner_free NW t.1 (corner_of v p)
              (λ w. (
                (let m = before_is x.x a.left w.0 in omega arith),
                (let m = before_is x.y a.up w.1 in let l = lies.above t.0 in omega arith),
              )))
          | inr (inr b) ↦ inl (let t = and_both s.below a.sw b in corner_free SW t.1 (corner_of v p)
              (λ w. (
                (let m = before_is x.x a.left w.0 in omega arith),
                lies.below t.0 ∙ sym (further x.y a.down w.1),
              )))
        ])
    dropped N h o n =
        let q = ahead_parts N x v h in
        let k = not_kept s.below s.above (s.left && a.nw) (s.right && a.ne) (rw o at n) in
        let up : x.y ≡ v.y + 1 = before_is x.y v.y q.1 in
        by_row (sym (some_number x.x v.x q.0)) (row_above k.0 up) (λ f. elim k.1 [
          | inl u ↦ inr (let m = lies.above u in omega arith)
          | inr (inl b) ↦ inl (let t = and_both s.left a.nw b in corner_free NW t.1 (corner_of p v)
              (λ w. (
                (let m = before_is x.x a.left w.0 in let l = lies.left t.0 in omega arith),
                (let m = before_is x.y a.up w.1 in omega arith),
              )))
          | inr (inr b) ↦ inl (let t = and_both s.right a.ne b in corner_free NE t.1 (corner_of p v)
              (λ w. (
                lies.right t.0 ∙ sym (further x.x a.right w.0),
                (let m = before_is x.y a.up w.1 in omega arith),
              )))
        ])
    dropped S h o n =
        let q = ahead_parts S x v h in
        let k = not_kept s.above s.below (s.left && a.sw) (s.right && a.se) (rw o at n) in
        let down : v.y ≡ x.y + 1 = further x.y v.y q.1 in
        by_row (sym (some_number x.x v.x q.0)) (row_below k.0 down) (λ f. elim k.1 [
          | inl b ↦ inr (lies.below b ∙ sym down)
          | inr (inl b) ↦ inl (let t = and_both s.left a.sw b in corner_free SW t.1 (corner_of p v)
              (λ w. (
                (let m = before_is x.x a.left w.0 in let l = lies.left t.0 in omega arith),
                down ∙ sym (further x.y a.down w.1),
              )))
          | inr (inr b) ↦ inl (let t = and_both s.right a.se b in corner_free SE t.1 (corner_of p v)
              (λ w. (lies.right t.0 ∙ sym (further x.x a.right w.0), down ∙ sym (further x.y a.down w.1))))
        ])

-- where no parent is given all open moves are kept
pub all_kept : (a : Around) (d : Dir) → is_open_to a d ≡ true
    → is_open_to (less_offered a (record { left = false; right = false; above = false; below = false })) d
    ≡ true
all_kept a d h = grind arith
