-- Maps on which worked rows are counted.
use Rattle.std.specs.Prelude.{codes}
use Rattle.grid_moves.specs.declared.Corner.{Corner}
use Rattle.grid_moves.specs.Grid.{GridData, grid_of}

-- the map `.../.@./...`
abbrev pub pillar : Corner → GridData
pillar corner = grid_of 3 3 (codes "....@....") corner

-- the map `.@/@.`
abbrev pub touch : Corner → GridData
touch corner = grid_of 2 2 (codes ".@@.") corner

-- the map `...../.@...`
abbrev pub notch : Corner → GridData
notch corner = grid_of 5 2 (codes "......@...") corner
