use Rattle.std.proofs.Common.{◌≡◌, ℕ, ◌<◌, ◌≤◌, true, length, map, string_bytes}
use Rattle.std.specs.Prelude.{slice_get}
use Rattle.word_list.specs.Steps.{is_one_of}
use Rattle.word_list.proofs.reading.fitting.Given as goal

-- the words behind are of their kinds
abbrev pub invariant-loop-place : goal.invariant-loop-place
invariant-loop-place l = record {
  within : l.place ≤ length l.words;
  first : (k : ℕ) → k < l.place → is_one_of (slice_get l.takes k) (slice_get (map string_bytes l.words) k)
      ≡ true;
}
