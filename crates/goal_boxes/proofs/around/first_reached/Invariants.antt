use Rattle.goal_boxes.specs.Wide.{NoneReached}
use Rattle.goal_boxes.proofs.around.first_reached.Given as goal

abbrev pub invariant-loop-x : goal.invariant-loop-x
invariant-loop-x l = NoneReached l.waves l.d l.y 0 l.x
