-- A scenario of problems from a number.
use Rattle.std.specs.Prelude.{◌≡◌, ℕ, nat_eq, if◌then◌else◌, List, [], ◌∷◌, ◌++◌, length, map, unwrap_or}
use Rattle.std.specs.Prelude.{codes, refl}
use Rattle.std.specs.Fmt.{digits}
use Rattle.std.specs.List.{All, flat_map}
use Rattle.root2_cost.specs.Sums.{no_cost}
use Rattle.cost_waves.specs.Begin.{IsLeastCost}
use Rattle.grid_moves.specs.declared.Corner.TheVariants.{Never}
use Rattle.grid_moves.specs.Layers.{Layers, layers_of, query_grid}
use Rattle.problem_maker.specs.Ordered.{in_order}
use Rattle.problem_maker.specs.Tries.{kept_of}
use Rattle.problem_maker.specs.declared.sorting.Problem.{Problem}
use Rattle.grid_moves.specs.declared.ends.Ends.{Ends}
use Rattle.scen_lines.specs.Line.{root, version_line}
use Rattle.scen_lines.specs.Naming.{name_of}
use Rattle.scen_lines.specs.declared.line.Problem as lines
use Rattle.scen_maker.specs.Lengths.{problem_line}
use Rattle.scen_maker.specs.Settling.{least_between}

-- the problem with these ends, and with the cost of a least walk between them; each kept try has one, and
-- where there were none the cost would be 0
abbrev pub priced : Layers → Ends → Problem
priced ls ends = record {
  ends = ends;
  cost = unwrap_or (least_between ls ends.from ends.to) no_cost;
}

-- the problems that a seed makes on a map: the kept tries with their costs, in the order of these, those of
-- equal costs in the order of their tries
abbrev pub problems_of : Layers → ℕ → ℕ → List Problem
problems_of ls seed count = in_order (map (priced ls) (kept_of ls seed count))

-- the query of a problem on a map with these grids
abbrev pub query_of : Layers → Problem → lines.Problem
query_of ls p = record {
  w = ls.land.width;
  h = ls.land.height;
  sx = p.ends.from.x;
  sy = p.ends.from.y;
  gx = p.ends.to.x;
  gy = p.ends.to.y;
}

-- the line of a problem on a map of this name
abbrev pub line_on : Layers → List ℕ → Problem → List ℕ
line_on ls name p = problem_line name (query_of ls p) p.cost

-- the first line, and below it those of the problems in their order
abbrev pub scenario_on : Layers → List ℕ → List Problem → List ℕ
scenario_on ls name problems = version_line ++ flat_map (line_on ls name) problems

-- the scenario that a seed makes on a map, whose file is named by this word
abbrev pub problems_text : Layers → List ℕ → ℕ → ℕ → List ℕ
problems_text ls word seed count = scenario_on ls (name_of word) (problems_of ls seed count)

-- and its status, which is 0 where as many tries were kept as problems are wanted
abbrev pub problems_status : Layers → ℕ → ℕ → ℕ
problems_status ls seed count = if nat_eq (length (kept_of ls seed count)) count then 0 else 1

-- each problem costs what a least walk between its ends does, on the grid of its query
abbrev pub ProblemsCostLeast : Type 0
ProblemsCostLeast = (ls : Layers) (seed count : ℕ)
    → All (λ p. IsLeastCost (query_grid ls p.ends.from) p.ends.from p.ends.to p.cost)
    (problems_of ls seed count)

-- a worked row: one move from left to right on the map `...@.`
abbrev rightward : Problem
rightward = record {
  ends = record { from = record { x = 1; y = 0 }; to = record { x = 2; y = 0 } };
  cost = record { a = 1; b = 0 };
}

pub one_move : scenario_on (layers_of Never 5 1 (codes "...@.")) (codes "a.map") (rightward ∷ [])
    ≡ codes "version 1\n0\ta.map\t5\t1\t1\t0\t2\t0\t1.00000000\n"
unfolding root digits
one_move = refl
