use Rattle.std.proofs.Common.{◌≡◌, ℕ, ◌+◌, ◌-◌}
use Rattle.grid_moves.specs.Around.{IsBefore}
use Rattle.potential_check.specs.Moves.{first_in_row}
use Rattle.potential_check.specs.Rising.{IsColumn, RowsReach, climbs, height_at}
use Rattle.potential_check.proofs.rising.Hills.first_in_row.Given as goal

-- the columns to the left and in the middle are known, and the first move in this row is that of the
-- columns left
abbrev pub invariant-loop-x : goal.invariant-loop-x
invariant-loop-x l = record {
  left : (before : ℕ) → IsBefore l.x before → IsColumn l.self before l.y l.left;
  middle : IsColumn l.self l.x l.y l.middle;
  rest : RowsReach l.self l.y (l.x + 1) l.rest;
  first : first_in_row l.self.grid.now (climbs (height_at l.self)) l.y 0 l.self.grid.now.width ≡ first_in_row
      l.self.grid.now (climbs (height_at l.self)) l.y l.x (l.self.grid.now.width - l.x);
}
