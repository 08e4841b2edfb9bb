use Rattle.path_points.proofs.Checks.{points_are_answered}
use Rattle.path_points.proofs.laws.points_are_answered.Goals as goal

pub returns : goal.returns
returns c = points_are_answered
