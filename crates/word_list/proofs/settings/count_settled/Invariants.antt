use Rattle.std.proofs.Common.{◌≡◌, ℕ, ◌<◌, true, [], ◌++◌, take, map, string_bytes}
use Rattle.std.specs.Prelude.{slice_get}
use Rattle.word_list.specs.Steps.{one_follows}
use Rattle.word_list.proofs.settings.count_settled.Given as goal

-- the words behind are settings
abbrev pub invariant-loop-place : goal.invariant-loop-place
invariant-loop-place l = (k : ℕ) → k < l.place → one_follows l.allows
    ([] ++ take k (map string_bytes l.words)) (slice_get (map string_bytes l.words) k) ≡ true
