use Rattle.std.proofs.Common.{◌≡◌, ℕ, ◌<◌, get_or}
use Rattle.cost_waves.specs.Rank.{far}
use Rattle.cost_waves.proofs.waves.forget.Given as goal

abbrev pub invariant-loop-rank : goal.invariant-loop-rank
invariant-loop-rank l = (k : ℕ) → k < l.rank-index → get_or l.ranks k far ≡ far

abbrev pub invariant-loop-first : goal.invariant-loop-first
invariant-loop-first l = (k : ℕ) → k < l.first-index → get_or l.firsts k 0 ≡ 0
