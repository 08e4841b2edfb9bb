use Rattle.goal_boxes.proofs.Answering.{answers_are}
use Rattle.goal_boxes.proofs.laws.answers_are_found.Goals as goal

pub returns : goal.returns
returns c = answers_are
