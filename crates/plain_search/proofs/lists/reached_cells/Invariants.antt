use Rattle.std.proofs.Common.{◌≡◌}
use Rattle.std.specs.List.{filter_map, range_with_len}
use Rattle.grid_moves.specs.Grid.{cell_numbered}
use Rattle.plain_search.specs.Lists.{reached_at}
use Rattle.plain_search.proofs.lists.reached_cells.Given as goal

abbrev pub invariant-loop-number : goal.invariant-loop-number
invariant-loop-number g l = l.reached.items ≡ filter_map (λ n. reached_at (g.T.Terrain.grid l.t) l.start
    (cell_numbered (g.T.Terrain.grid l.t).width n)) (range_with_len 0 l.number)
