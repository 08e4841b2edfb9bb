use Rattle.std.proofs.Common.{◌≡◌, ◌+◌, ◌-◌, ◌≤◌, true, false}
use Rattle.grid_moves.specs.Grid.{GridData, is_free}
use Rattle.pruning.specs.First.{first_stop, run_length}
use Rattle.jump_plain.proofs.Diagonal.{later}
use Rattle.jump_block.specs.declared.straight.Axis.TheVariants.{Row}
use Rattle.jump_block.specs.Source.{AreItsBits, IsNear, is_toward}
use Rattle.jump_block.proofs.straight.Bits.diagonal.Given as goal

-- the cell is so many moves on, the words around it are at hand, and the first stop in all is that from
-- there, after these
abbrev pub invariant-run : goal.invariant-run
invariant-run g l = record {
  read : l.fn.steps + 3 ≤ l.steps;
  near : IsNear l.self Row l.cell l.near;
  aside : is_toward l.d l.fn.at l.goal ≡ false → is_toward l.d l.cell l.goal ≡ false;
  there : (grid : GridData) → AreItsBits l.self grid → is_free grid l.fn.at ≡ true → record {
    free : is_free grid l.cell ≡ true;
    stop : first_stop grid l.goal l.fn.at l.d ≡ later l.moves (first_stop grid l.goal l.cell l.d);
    run : l.moves + run_length grid l.cell l.d ≡ run_length grid l.fn.at l.d;
  };
}

-- no run is longer than both sides together
abbrev pub decreases-run : goal.decreases-run
decreases-run g l = 8192 - l.moves
