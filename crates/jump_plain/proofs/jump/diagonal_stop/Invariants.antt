use Rattle.std.proofs.Common.{◌≡◌, ◌+◌, true}
use Rattle.grid_moves.specs.Grid.{is_free}
use Rattle.pruning.specs.First.{first_stop, run_length}
use Rattle.jump_plain.specs.Beside.{sides_ahead}
use Rattle.jump_plain.proofs.Diagonal.{later}
use Rattle.jump_plain.proofs.jump.diagonal_stop.Given as goal

-- the cell is so many moves on, the place is its own, what is known of it is so, and the first stop in all is
-- that from there, after these
abbrev pub invariant-run : goal.invariant-run
invariant-run g l =
    let grid = g.T.Terrain.grid l.t in
    record {
      given : l.place ≡ g.T.Terrain.place_of l.t l.cell;
      free : is_free grid l.cell ≡ true;
      beside : l.beside ≡ sides_ahead grid l.cell l.d;
      stop : first_stop grid l.goal l.fn.at l.d
          ≡ later l.moves (first_stop grid l.goal l.cell l.d);
      run : l.moves + run_length grid l.cell l.d ≡ run_length grid l.fn.at l.d;
    }

-- the moves that are left
abbrev pub decreases-run : goal.decreases-run
decreases-run g l = run_length (g.T.Terrain.grid l.t) l.cell l.d
