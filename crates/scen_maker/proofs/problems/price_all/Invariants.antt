use Rattle.std.proofs.Common.{◌≡◌, map, take}
use Rattle.scen_maker.specs.Problems.{priced}
use Rattle.scen_maker.proofs.problems.price_all.Given as goal

-- the first of the ends have their problems
abbrev pub invariant-loop-ends : goal.invariant-loop-ends
invariant-loop-ends g l = record {
  priced : l.problems.items ≡ map (priced l.fn.costs) (take l.ends-index l.kept);
  same : l.costs ≡ l.fn.costs;
}
