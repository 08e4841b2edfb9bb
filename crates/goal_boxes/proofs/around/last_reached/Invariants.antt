use Rattle.std.proofs.Common.{◌≤◌, ◌<◌, ◌+◌}
use Rattle.goal_boxes.specs.Wide.{NoneReached}
use Rattle.goal_boxes.proofs.around.last_reached.Given as goal

abbrev pub invariant-loop-last : goal.invariant-loop-last
invariant-loop-last l = record {
  ordered : l.first ≤ l.last;
  within : l.last < l.waves.width;
  none : NoneReached l.waves l.d l.y (l.last + 1) l.waves.width;
}

abbrev pub decreases-loop-last : goal.decreases-loop-last
decreases-loop-last l = l.last
