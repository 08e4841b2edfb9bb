use Rattle.std.proofs.Common.{◌≡◌, take}
use Rattle.scen_maker.specs.Problems.{scenario_on}
use Rattle.scen_maker.proofs.problems.scenario_text.Given as goal

-- the lines of the first problems are written
abbrev pub invariant-loop-problem : goal.invariant-loop-problem
invariant-loop-problem l = l.text.items ≡ scenario_on l.layers l.name (take l.problem-index l.problems)
