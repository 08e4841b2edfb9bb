use Rattle.std.proofs.Common.{◌≡◌}
use Rattle.std.specs.List.{filter_map, range_with_len}
use Rattle.grid_moves.specs.Grid.{cell_numbered}
use Rattle.plain_search.specs.Lists.{closed_at}
use Rattle.plain_search.proofs.lists.closed_cells.Given as goal

abbrev pub invariant-loop-number : goal.invariant-loop-number
invariant-loop-number g l = l.closed.items
    ≡ filter_map (λ n. closed_at (g.T.Terrain.grid l.t) l.ends.from l.ends.to
    l.bound (cell_numbered (g.T.Terrain.grid l.t).width n)) (range_with_len 0 l.number)
