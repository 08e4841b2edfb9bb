use Rattle.std.proofs.Common.{◌≡◌, ℕ, ◌<◌, false}
use Rattle.plus_tables.specs.Rows as spec
use Rattle.plus_tables.proofs.flags.are_same.Given as goal

-- unless a place was found where they differ, the places so far have the same flags
abbrev pub invariant-loop-k : goal.invariant-loop-k
invariant-loop-k l = l.differ ≡ false → (n : ℕ) → n < l.k → spec.flag l.one n ≡ spec.flag l.other n
