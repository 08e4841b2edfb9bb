use Rattle.goal_boxes.proofs.Existing.{boxes_are}
use Rattle.goal_boxes.proofs.laws.boxes_are_found.Goals as goal

pub returns : goal.returns
returns c = boxes_are
