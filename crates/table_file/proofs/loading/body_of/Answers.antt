use Rattle.std.proofs.lemmas.Bool.Decides.{nat_tests}
use Rattle.std.proofs.Common.{◌≡◌, ◌≢◌, ◌+◌, ◌*◌, ℕ, Bool, List, arith, true, false, ap, sym, ◌∙◌, length}
use Rattle.std.proofs.Common.{take}
use Rattle.std.specs.Prelude.{Some, None, bytes_eq, if◌then◌else◌, nat_eq, not}
use Rattle.grid_moves.specs.declared.Corner.{Corner}
use Rattle.grid_moves.specs.Grid.{GridData}
use Rattle.table_file.specs.declared.fault.TableFault.TheVariants.{Head, Length}
use Rattle.table_file.specs.Encoding.{head_bytes, size_of}
use Rattle.table_file.specs.Faults.{frame_fault}
use Rattle.table_file.proofs.loading.body_of.Goals as goal

-- the fault of a frame by whether the text has the head, and by its length
module _ (g : GridData) (text : List ℕ) (corner : Corner) (width height : ℕ) (has : Bool)
    (tested : has ≡ bytes_eq (head_bytes corner width height) (take 13 text)) (same : corner ≡ g.corner)
    (wide : width ≡ g.width) (high : height ≡ g.height) where
  abbrev headed : Bool
  headed = bytes_eq (head_bytes g.corner g.width g.height) (take 13 text)

  is_headed : headed ≡ has
  is_headed = sym (tested ∙ ap (λ (k : Corner). bytes_eq (head_bytes k width height) (take 13 text)) same
      ∙ ap (λ (n : ℕ). bytes_eq (head_bytes g.corner n height) (take 13 text)) wide
      ∙ ap (λ (n : ℕ). bytes_eq (head_bytes g.corner g.width n) (take 13 text)) high)

  size : 13 + 32 * (height * width) ≡ size_of g
  size = ap (λ (n : ℕ). 13 + 32 * (n * width)) high ∙ ap (λ (n : ℕ). 13 + 32 * (g.height * n)) wide

  head_fault : has ≡ false → frame_fault g text ≡ Some Head
  head_fault h = ap (λ (b : Bool). if not b then Some Head
      else if not (nat_eq (length text) (size_of g)) then Some Length else None) (is_headed ∙ h)

  on_head : has ≡ true
      → frame_fault g text ≡ (if not (nat_eq (length text) (size_of g)) then Some Length else None)
  on_head h = ap (λ (b : Bool). if not b then Some Head
      else if not (nat_eq (length text) (size_of g)) then Some Length else None) (is_headed ∙ h)

  length_fault : has ≡ true → length text ≢ 13 + 32 * (height * width) → frame_fault g text ≡ Some Length
  length_fault h n = on_head h ∙ ap (λ (b : Bool). if not b then Some Length else None)
      (unequal (length text) (size_of g) (λ e. n (e ∙ sym size)))
    where
      unequal : (m n : ℕ) → m ≢ n → nat_eq m n ≡ false
      unequal m n h = grind (arith, nat_tests)

  no_fault : has ≡ true → length text ≡ 13 + 32 * (height * width) → frame_fault g text ≡ None
  no_fault h e = on_head h ∙ ap (λ (b : Bool). if not b then Some Length else None)
      (equal (length text) (size_of g) (e ∙ size))
    where
      equal : (m n : ℕ) → m ≡ n → nat_eq m n ≡ true
      equal m n h = grind (arith, nat_tests)

  body_length : (n : ℕ) → n + 13 ≡ length text → length text ≡ 13 + 32 * (height * width)
      → n ≡ 32 * (g.height * g.width)
  body_length n e f = let s = size in let t = f in omega arith

pub returns-then-not-has_head-clause-wrong : goal.returns-then-not-has_head-clause-wrong
returns-then-not-has_head-clause-wrong c =
    head_fault c.args.land.now c.args.text.now c.corner.result c.width-width.result c.height-height.result
    c.has_head.result c.has_head.ensures c.corner.ensures c.width-width.ensures.is c.height-height.ensures.is
    c.if-not-has_head.true

pub returns-then-text-height-clause-wrong : goal.returns-then-text-height-clause-wrong
returns-then-text-height-clause-wrong c =
    length_fault c.args.land.now c.args.text.now c.corner.result c.width-width.result c.height-height.result
    c.has_head.result c.has_head.ensures c.corner.ensures c.width-width.ensures.is c.height-height.ensures.is
    c.if-not-has_head.false c.if-text-height.true

pub returns-clause-right : goal.returns-clause-right
returns-clause-right c = (
  no_fault c.args.land.now c.args.text.now c.corner.result c.width-width.result c.height-height.result
      c.has_head.result c.has_head.ensures c.corner.ensures c.width-width.ensures.is
      c.height-height.ensures.is
      c.if-not-has_head.false c.if-text-height.false,
  c.split_at.ensures.back,
  body_length c.args.land.now c.args.text.now c.corner.result c.width-width.result c.height-height.result
      c.has_head.result c.has_head.ensures c.corner.ensures c.width-width.ensures.is
      c.height-height.ensures.is
      _
      c.split_at.ensures.back_len c.if-text-height.false,
)
