use Rattle.std.proofs.Common.{◌≡◌, ℕ, ◌+◌, ◌*◌, ◌<◌, ◌≤◌, Bool}
use Rattle.jump_block.specs.Trail.{begun, trail_on}
use Rattle.jump_block.specs.Word.{edge_before}
use Rattle.jump_block.specs.Seek.{HasPassed}
use Rattle.jump_block.specs.Scan.{IsStart}
use Rattle.jump_block.proofs.Scans.{distance, blocks_left, IsOnWay}
use Rattle.jump_block.proofs.scan.scan_on.Given as goal

-- the blocks up to this one are passed, and of each after the first three lanes were read
abbrev pub invariant-blocks-2 : goal.invariant-blocks-2
invariant-blocks-2 g l = record {
  below : l.index < l.lines.blocks;
  on_way : IsOnWay l.way l.place l.index;
  passed : (free : ℕ → ℕ → Bool) → IsStart l.lines free l.line l.place
      → HasPassed (begun l.fn.rule (trail_on free l.way l.line l.place)) l.way l.place
      (edge_before l.way (l.index * 512) 8) l.last;
  read : l.steps + 3 ≡ l.fn.steps + 3 * (distance l.way l.place l.index + 1);
  goal : 0 < l.to_goal → distance l.way l.place l.index * 512 ≤ l.to_goal + 512;
}

abbrev pub decreases-blocks-2 : goal.decreases-blocks-2
decreases-blocks-2 g l = blocks_left l.way l.lines.blocks l.index
