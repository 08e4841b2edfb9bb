use Rattle.goal_boxes.specs.Box.{IsAreaOf}
use Rattle.goal_boxes.specs.Wide.{Met}
use Rattle.goal_boxes.proofs.around.box_toward.Given as goal

abbrev pub invariant-loop-y : goal.invariant-loop-y
invariant-loop-y l = IsAreaOf (Met l.waves l.d l.y 0) l.found
