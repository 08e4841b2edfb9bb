use Rattle.std.proofs.Common.{◌∙◌, arith}
use Rattle.path_points.proofs.Filling.{segment_pushed}
use Rattle.path_points.proofs.segments.push_segment.Goals as goal

pub loop-preserved : goal.loop-preserved
loop-preserved c =
    segment_pushed c.loop.cells c.push.new.self c.steps_between-end.result c.loop.counter c.loop.at
    c.step_toward-at.result c.args.to (omega arith) c.step_toward-at.ensures
    c.in_ok-push.ensures.pushed
    ∙ c.loop.invariant
