-- Rows that are drawn, one after another.
use Rattle.std.proofs.Common.{◌≡◌, ℕ, suc, ◌+◌, ◌-◌, ◌*◌, ◌<◌, List, ◌++◌, length, take, drop, sym, ap, ◌∙◌}
use Rattle.std.proofs.Common.{append_assoc, arith}
use Rattle.std.proofs.lemmas.List.{length-drop}
use Rattle.map_text.specs.Writing.{rows_of}
use Rattle.picture.specs.declared.kinds.DrawnGround.{DrawnGround}
use Rattle.picture.specs.Picture.{row_strokes, strokes_from}

-- what is written and the strokes of the rows left are the strokes of all rows
pub record AreDrawn (kind : DrawnGround) (old : List ℕ) (height width : ℕ) (cells left : List ℕ) (y : ℕ)
    (new : List ℕ) : Type 0 where
  pub long : length left ≡ (height - y) * width
  pub text : new ++ strokes_from kind y (rows_of (height - y) width left)
      ≡ old ++ strokes_from kind 0 (rows_of height width cells)

one_less : (n width long : ℕ) → long ≡ suc n * width → long - width ≡ n * width
one_less n width long is = omega arith

module _ (kind : DrawnGround) (old : List ℕ) (height width : ℕ) (cells : List ℕ) where
  module _ (left : List ℕ) (y : ℕ) (new : List ℕ)
      (drawn : AreDrawn kind old height width cells left y new) where
    pub row_drawn : (now : List ℕ) → y < height → now ≡ new ++ row_strokes kind y (take width left)
        → AreDrawn kind old height width cells (drop width left) (y + 1) now
    row_drawn now more written =
        let some : height - y ≡ suc (height - (y + 1)) = omega arith in
        let after = strokes_from kind (y + 1) (rows_of (height - (y + 1)) width (drop width left)) in
        record {
          long = length-drop width left ∙ one_less (height - (y + 1)) width (length left)
              (drawn.long ∙ ap (λ (n : ℕ). n * width) some);
          text = ap (λ (t : List ℕ). t ++ after) written
              ∙ append_assoc new (row_strokes kind y (take width left)) after
              ∙ ap (λ (n : ℕ). new ++ strokes_from kind y (rows_of n width left)) (sym some) ∙ drawn.text;
        }
