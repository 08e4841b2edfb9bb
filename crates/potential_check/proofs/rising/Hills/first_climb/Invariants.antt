use Rattle.std.proofs.Common.{◌≡◌, ◌-◌}
use Rattle.potential_check.specs.Moves.{first_in_rows}
use Rattle.potential_check.specs.Rising.{RowsReach, climbs, height_at}
use Rattle.potential_check.proofs.rising.Hills.first_climb.Given as goal

-- the first move is that of the rows left
abbrev pub invariant-loop-y : goal.invariant-loop-y
invariant-loop-y l = record {
  rows : RowsReach l.self l.y 0 l.rows;
  first : first_in_rows l.self.grid.now (climbs (height_at l.self)) 0 l.self.grid.now.height ≡ first_in_rows
      l.self.grid.now (climbs (height_at l.self)) l.y (l.self.grid.now.height - l.y);
}
