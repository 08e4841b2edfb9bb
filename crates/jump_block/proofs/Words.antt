-- Where a scan halts, 64 cells at a time.
use Rattle.std.proofs.lemmas.Grind.{common_steps}
use Rattle.std.proofs.Common.{◌≡◌, ℕ, zero, suc, ◌+◌, ◌*◌, ◌-◌, ◌/◌, ◌%◌, ◌<◌, ◌≤◌, ◌⊎◌, inl, inr, arith}
use Rattle.std.proofs.Common.{Bool, true, false, not, ◌&&◌, ◌||◌, refl, ap, sym, ◌∙◌, subst, bit_and, bit_or}
use Rattle.std.proofs.lemmas.Nat.{or_lt}
use Rattle.std.proofs.lemmas.Bool.{cases_lt, cond-true, cond-false}
use Rattle.grid_moves.specs.Bits.{is_set}
use Rattle.grid_moves.proofs.Bits.{set_or, set_none}
use Rattle.bit_grid.proofs.Words.{set_raised, set_raised-lowest, set_lowered}
use Rattle.jump_block.specs.declared.word.Way.{Way}
use Rattle.jump_block.specs.declared.word.Way.TheVariants.{Forward, Back}
use Rattle.bit_grid.specs.declared.lines.ThreeWords.{ThreeWords}
use Rattle.std.specs.Prelude.{nat_eq}
use Rattle.std.proofs.lemmas.Bool.Decides.{nat_tests}
use Rattle.grid_moves.specs.declared.Corner.{Corner}
use Rattle.grid_moves.specs.Move.{may_cut}
use Rattle.grid_moves.proofs.Legal.{by_cut}
use Rattle.jump_block.specs.Trail.{Trail, opens, opens_beside, halts, at_start, begun}
use Rattle.jump_block.specs.Word.{Meets, IsWordOf, AreWordsOf, IsEdgeOf, IsOpened}
use Rattle.jump_block.proofs.Bits.{set_top, set_top-above, set_bottom, set_bottom-below, set_past, set_apart}

exchanged : (a b c d : Bool) → a ≡ c → b ≡ d → (a && not b) ≡ (not d && c)
exchanged a b c d e f = grind arith

or_first : (a b : Bool) → b ≡ false → (a || b) ≡ a
or_first a b e = grind arith

or_second : (a b : Bool) → a ≡ false → (a || b) ≡ b
or_second a b e = grind arith

module _ (side : ℕ → Bool) (from base word last : ℕ) (small : word < 18446744073709551616)
    (small_last : last < 18446744073709551616) where
  -- the bit before, with the carry of the word before
  before_forward : IsWordOf side Forward from base word → IsEdgeOf side Forward from base last → (j k : ℕ)
      → j < 64
      → from + suc k ≡ base + j
      → is_set (bit_or (word * 2 % 18446744073709551616) (last / 9223372036854775808)) j ≡ side k
  before_forward here edge zero k h m =
      set_or (word * 2 % 18446744073709551616) (last / 9223372036854775808) 0
      ∙ or_second _ _ (set_raised-lowest word) ∙ set_top last small_last ∙ edge k (omega arith)
  before_forward here edge (suc j) k h m =
      grind (arith, nat_tests, common_steps, set_or, or_first, set_top-above, set_raised)

  pub opened_forward : IsWordOf side Forward from base word → IsEdgeOf side Forward from base last → (j k : ℕ)
      → j < 64 → from + suc k ≡ base + j
      → is_set (bit_and word (18446744073709551615
      - bit_or (word * 2 % 18446744073709551616) (last / 9223372036854775808))) j ≡ opens side k
  opened_forward here edge j k h m =
      set_apart word (bit_or (word * 2 % 18446744073709551616) (last / 9223372036854775808)) j
      (or_lt 64 (word * 2 % 18446744073709551616) (last / 9223372036854775808) (omega arith) (omega arith)) h
      ∙ exchanged _ _ _ _ (here j (suc k) h m) (before_forward here edge j k h m)

  before_back : IsWordOf side Back from base word → IsEdgeOf side Back from (base + 64) last → (j k : ℕ)
      → j < 64 → base + j + suc k ≡ from
      → is_set (bit_or (word / 2) (last * 9223372036854775808 % 18446744073709551616)) j ≡ side k
  before_back here edge j k h m = by_place (cases_lt j 63)
    where
      by_place : (j < 63) ⊎ (63 ≤ j)
          → is_set (bit_or (word / 2) (last * 9223372036854775808 % 18446744073709551616)) j ≡ side k
      by_place (inl l) =
          grind (arith, nat_tests, common_steps, set_or, or_first, set_bottom-below, set_lowered)
      by_place (inr l) =
          let top : j ≡ 63 = omega arith in
          rw top (set_or (word / 2) (last * 9223372036854775808 % 18446744073709551616) 63
          ∙ or_second _ _ (set_lowered word 63 ∙ set_past word small) ∙ set_bottom last
          ∙ edge k (omega arith))

  pub opened_back : IsWordOf side Back from base word → IsEdgeOf side Back from (base + 64) last → (j k : ℕ)
      → j < 64 → base + j + suc k ≡ from
      → is_set (bit_and word (18446744073709551615
      - bit_or (word / 2) (last * 9223372036854775808 % 18446744073709551616))) j ≡ opens side k
  opened_back here edge j k h m =
      set_apart word (bit_or (word / 2) (last * 9223372036854775808 % 18446744073709551616)) j
      (or_lt 64 (word / 2) (last * 9223372036854775808 % 18446744073709551616) (omega arith) (omega arith)) h
      ∙ exchanged _ _ _ _ (here j (suc k) h m) (before_back here edge j k h m)

pub opened_on_forward : (way : Way) → way ≡ Forward → (word last : ℕ) → word < 18446744073709551616
    → last < 18446744073709551616 → IsOpened way word last (bit_and word (18446744073709551615
    - bit_or (word * 2 % 18446744073709551616) (last / 9223372036854775808)))
opened_on_forward way e word last a b = subst (λ (w : Way). IsOpened w word last (bit_and word
    (18446744073709551615 - bit_or (word * 2 % 18446744073709551616) (last / 9223372036854775808)))) (sym e)
    (λ side from base. opened_forward side from base word last a b)

pub opened_on_back : (way : Way) → way ≡ Back → (word last : ℕ) → word < 18446744073709551616
    → last < 18446744073709551616 → IsOpened way word last (bit_and word (18446744073709551615
    - bit_or (word / 2) (last * 9223372036854775808 % 18446744073709551616)))
opened_on_back way e word last a b = subst (λ (w : Way). IsOpened w word last (bit_and word
    (18446744073709551615 - bit_or (word / 2) (last * 9223372036854775808 % 18446744073709551616)))) (sym e)
    (λ side from base. opened_back side from base word last a b)

-- two words together tell one thing or the other
pub either_there : (one other j : ℕ) (a b : Bool) → is_set one j ≡ a → is_set other j ≡ b
    → is_set (bit_or one other) j ≡ (a || b)
either_there one other j a b e f = set_or one other j ∙ rw (e, f) refl

pub halts_there : (blocked beside middle j : ℕ) (t : Trail) (k : ℕ)
    → is_set blocked j ≡ not (is_set middle j)
    → is_set middle j ≡ t.free (suc k) → is_set beside j ≡ opens_beside t k
    → is_set (bit_or blocked beside) j ≡ halts t k
halts_there blocked beside middle j t k not_free free opened =
    either_there blocked beside j _ _ (not_free ∙ ap not free) opened

-- where a diagonal move may pass between two blocked cells a mark shows wherever a side opens
pub shows_too : (free opened slip : Bool) → slip ≡ true → (free || opened) ≡ (free || (slip && opened))
shows_too free opened slip e = grind arith

-- the words with which a scan begins
module _ (rule : Corner) (bit : ℕ) (place : ℕ) (uncut : may_cut rule ≡ false → bit ≡ 0)
    (cut : may_cut rule ≡ true → (j : ℕ) → j < 64 → is_set bit j ≡ nat_eq j place) (h : place < 64)
    (way : Way) (base : ℕ) where
  stays : (side : ℕ → Bool) (word : ℕ) → bit ≡ 0 → IsWordOf side way (base + place) base word
      → IsWordOf side way (base + place) base (bit_or word bit)
  stays side word e here j k l m = grind (arith, nat_tests, common_steps, set_or, or_first, set_none)

  at_place : (j k : ℕ) → Meets way (base + place) (base + j) k → nat_eq j place ≡ nat_eq k 0
  at_place j k m = grind (arith, nat_tests, common_steps)

  begun_side : (side : ℕ → Bool) (word : ℕ) → IsWordOf side way (base + place) base word
      → IsWordOf (at_start rule side) way (base + place) base (bit_or word bit)
  begun_side side word h1 =
      grind (arith, nat_tests, common_steps, by_cut, stays, cond-false, set_or, at_place, cond-true, or_first)

  pub begun_words : (t : Trail) (w : ThreeWords) → AreWordsOf t way (base + place) base w
      → AreWordsOf (begun rule t) way (base + place) base
      (record { middle = w.middle; before = bit_or w.before bit; after = bit_or w.after bit })
  begun_words t w are = grind (arith, nat_tests, common_steps, begun_side)
