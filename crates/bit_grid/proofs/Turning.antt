-- Rows turned to columns, by strips of words.
use Rattle.std.proofs.Common.{◌≡◌, ℕ, ◌+◌, ◌*◌, ◌/◌, ◌%◌, ◌<◌, ◌≤◌, arith, Bool, true, false, refl, ap, sym}
use Rattle.std.proofs.Common.{◌∙◌, List, length, slice_index_or, nat_lt}
use Rattle.std.specs.Prelude.{if◌then◌else◌}
use Rattle.std.proofs.lemmas.Bool.Decides.{nat_tests}
use Rattle.grid_moves.specs.Bits.{is_set}
use Rattle.bit_grid.specs.Bits.{LineData, Shows}
use Rattle.bit_grid.specs.Turn.{IsStrip, IsWhole, ArePackedSoFar}
use Rattle.bit_grid.proofs.Packing.{packed_lines}
use Rattle.grid_moves.proofs.Bits.{set_none}

-- a bit of a strip is one of a row
pub strip_bit : (strip words : List ℕ) (lines per_line byte : ℕ) (free : ℕ → ℕ → Bool)
    → IsStrip strip words lines per_line byte → IsWhole words lines per_line free → byte < per_line * 8
    → (l place column : ℕ) → l < length strip → place < 8 → byte * 8 + place ≡ column
    → is_set (slice_index_or strip l 0) place ≡ free l column
strip_bit strip words lines per_line byte free gathered whole h l place column k i e =
    gathered l k place i ∙ by_test (nat_lt l lines) refl
  where
    by_test : (b : Bool) → nat_lt l lines ≡ b
        → is_set (if b then slice_index_or words (l * per_line + byte / 8) 0 else 0) (byte % 8 * 8 + place)
        ≡ free l column
    by_test true t =
        let below : l < lines = grind (arith, nat_tests) in
        let at : byte / 8 * 64 + (byte % 8 * 8 + place) ≡ column = omega arith in
        whole.bits l (byte / 8) (byte % 8 * 8 + place) below (omega arith) (omega arith)
        ∙ ap (λ (p : ℕ). free l p) at
    by_test false t =
        let past : lines ≤ l = grind (arith, nat_tests) in
        set_none (byte % 8 * 8 + place) ∙ sym (whole.beyond l column past)

-- the lines that show a map are whole, if all beyond it is blocked
pub whole_of : (l : LineData) (cells columns : ℕ) (free : ℕ → ℕ → Bool) → Shows l cells columns free
    → ((line place : ℕ) → cells + 2 ≤ line → free line place ≡ false)
    → IsWhole l.words l.lines (l.blocks * 8) free
whole_of l cells columns free shows beyond = record {
  bits = shows.bits;
  beyond = λ line place h. beyond line place (let all = shows.bordered in omega (arith, h, all));
}

-- what they are turned to shows the columns
pub turned_shown : (columns cells blocks lines : ℕ) (words : List ℕ) (free : ℕ → ℕ → Bool)
    → lines ≡ columns + 2 → cells + 2 ≤ blocks * 512 → blocks * 512 < cells + 514
    → length words ≡ lines * (blocks * 8)
    → ArePackedSoFar (λ column row. free row column) (blocks * 8) words
    → Shows (record { lines = lines; blocks = blocks; words = words }) columns cells
    (λ line place. free place line)
turned_shown columns cells blocks lines words free all ample tight long packed = record {
  bordered = all;
  ample = ample;
  tight = tight;
  bits = λ line w j a b c. packed_lines (λ column row. free row column) lines (blocks * 8) words long packed
      line w a b j c;
}
