-- A block that was read is what a trail has there.
use Rattle.std.proofs.lemmas.Bool.Decides.{nat_tests}
use Rattle.std.proofs.lemmas.Grind.{common_steps}
use Rattle.std.proofs.Common.{◌≡◌, ℕ, ◌+◌, ◌*◌, ◌-◌, ◌<◌, arith, Bool, ap, ◌∙◌, List, slice_index_or}
use Rattle.grid_moves.specs.Bits.{is_set}
use Rattle.jump_block.specs.declared.word.Way.{Way}
use Rattle.jump_block.specs.Trail.{along, trail_on}
use Rattle.jump_block.specs.Word.{Meets, IsWordOf, AreWordsOf, nth_word}

-- the place that the way leads to
pub meets_along : (way : Way) (from place k : ℕ) → Meets way from place k → place ≡ along way from k
meets_along way from place k h1 = grind (arith, nat_tests, common_steps)

word_read : (free : ℕ → ℕ → Bool) (way : Way) (line from index w : ℕ) (words : List ℕ) → w < 8
    → ((k j : ℕ) → k < 8 → j < 64
    → is_set (slice_index_or words k 0) j ≡ free line (index * 512 + k * 64 + j))
    → IsWordOf (λ k. free line (along way from k)) way from (index * 512 + w * 64) (slice_index_or words w 0)
word_read free way line from index w words h shown = λ j k l m.
    shown w j h l ∙ ap (λ (p : ℕ). free line p) (meets_along way from (index * 512 + w * 64 + j) k m)

pub nth_small : (way : Way) (n : ℕ) → n < 8 → nth_word way n < 8
nth_small way n h1 = grind (arith, nat_tests, common_steps)

pub block_read : (free : ℕ → ℕ → Bool) (way : Way) (line from index n : ℕ) → n < 8
    → (middle before after : List ℕ)
    → ((k j : ℕ) → k < 8 → j < 64
    → is_set (slice_index_or middle k 0) j ≡ free line (index * 512 + k * 64 + j))
    → ((k j : ℕ) → k < 8 → j < 64
    → is_set (slice_index_or before k 0) j ≡ free (line - 1) (index * 512 + k * 64 + j))
    → ((k j : ℕ) → k < 8 → j < 64
    → is_set (slice_index_or after k 0) j ≡ free (line + 1) (index * 512 + k * 64 + j))
    → AreWordsOf (trail_on free way line from) way from (index * 512 + nth_word way n * 64) (record {
      middle = slice_index_or middle (nth_word way n) 0;
      before = slice_index_or before (nth_word way n) 0;
      after = slice_index_or after (nth_word way n) 0;
    })
block_read free way line from index n h middle before after a b c =
    grind (arith, nat_tests, common_steps, word_read, nth_small)
