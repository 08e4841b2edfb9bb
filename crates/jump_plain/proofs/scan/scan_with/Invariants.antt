use Rattle.std.proofs.Common.{◌≡◌, ◌+◌, true}
use Rattle.grid_moves.specs.Grid.{is_free}
use Rattle.pruning.specs.First.{run_length}
use Rattle.jump_plain.specs.Reach.{reach_of}
use Rattle.jump_plain.proofs.Scanning.{HasSides}
use Rattle.jump_plain.proofs.scan.scan_with.Given as goal

-- the cell is so many moves on, the place is its own, and what is left to find from there is what is left in
-- all, less these
abbrev pub invariant-run : goal.invariant-run
invariant-run g l =
    let grid = g.T.Terrain.grid l.t in
    record {
      given : l.place ≡ g.T.Terrain.place_of l.t l.cell;
      free : is_free grid l.cell ≡ true;
      left : HasSides grid l.cell l.d l.shut l.moves (reach_of grid l.fn.at l.d);
      run : l.moves + run_length grid l.cell l.d ≡ run_length grid l.fn.at l.d;
    }

-- the moves that are left
abbrev pub decreases-run : goal.decreases-run
decreases-run g l = run_length (g.T.Terrain.grid l.t) l.cell l.d
