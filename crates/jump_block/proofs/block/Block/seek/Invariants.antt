use Rattle.jump_block.specs.Trail.{Trail, IsClear}
use Rattle.jump_block.specs.Word.{AreEdgesOf, IsBlockOf, edge_before, moves_before}
use Rattle.jump_block.specs.Seek.{HasPassed}
use Rattle.jump_block.proofs.block.Block.seek.Given as goal

-- the words behind are passed
abbrev pub invariant-loop-n : goal.invariant-loop-n
invariant-loop-n l = (t : Trail) → IsBlockOf t l.way l.from l.start l.i l.self
    → AreEdgesOf t l.way l.from (edge_before l.way l.start l.i) l.fn.last
    → IsClear t (moves_before l.way l.from (edge_before l.way l.start l.i))
    → HasPassed t l.way l.from (edge_before l.way l.start l.n) l.last
