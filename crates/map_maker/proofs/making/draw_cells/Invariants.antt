use Rattle.map_maker.specs.Drawing.{cell_by}
use Rattle.map_maker.proofs.Drawn.{AreCells}
use Rattle.map_maker.proofs.making.draw_cells.Given as goal

-- the cells behind are those of the words behind
abbrev pub invariant-loop-done : goal.invariant-loop-done
invariant-loop-done l =
    AreCells (cell_by l.kinds) l.count l.initial.generator l._done l.cells.items l.generator
