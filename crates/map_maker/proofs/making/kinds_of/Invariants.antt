use Rattle.std.proofs.Common.{◌≡◌, ◌<◌, ℕ, get_or, length}
use Rattle.map_maker.specs.Making.{cell_of}
use Rattle.map_maker.proofs.making.kinds_of.Given as goal

-- the kinds behind are those of their words
abbrev pub invariant-loop-rest : goal.invariant-loop-rest
invariant-loop-rest l = record {
  long : length l.kind-items ≡ 100;
  each : (k : ℕ) → k < l.rest → get_or l.kind-items k 0 ≡ cell_of l.percent k;
}
