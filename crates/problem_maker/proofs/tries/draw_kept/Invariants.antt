use Rattle.joined_cells.specs.Both.{are_joined_in}
use Rattle.problem_maker.specs.Tries.{is_kept, most_tries}
use Rattle.problem_maker.proofs.Drawn.{AreDrawn}
use Rattle.problem_maker.proofs.tries.draw_kept.Given as goal

-- the kept ones of the tries behind, and those of the tries ahead, are those of all
abbrev pub invariant-loop-tried : goal.invariant-loop-tried
invariant-loop-tried l = AreDrawn (is_kept (are_joined_in l.joined)) l.cells l.count l.fn.generator
    (most_tries l.count) l._tried l.kept.items l.generator
