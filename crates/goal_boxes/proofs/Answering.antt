-- What the boxed run answers, as a function.
use Rattle.grid_moves.specs.declared.Cell.{Cell}
use Rattle.grid_moves.specs.Grid.{GridData}
use Rattle.path_points.specs.Corners.{corners}
use Rattle.best_first.specs.Answer.{AnswersAre}
use Rattle.best_first.proofs.Answering.{found_answers}
use Rattle.goal_boxes.specs.Answer.{IsBoxedRunOn}
use Rattle.goal_boxes.specs.Made.{box_of, boxed_found}
use Rattle.goal_boxes.specs.Rule.{boxed_links}
use Rattle.goal_boxes.proofs.Unique.{one_boxed}
use Rattle.goal_boxes.proofs.Existing.{tells_boxes}
use Rattle.goal_boxes.proofs.Moves.{boxed_are_links}
use Rattle.goal_boxes.proofs.Right.{run_least}

pub is_run : (g : GridData) (s t : Cell) → IsBoxedRunOn g s t (boxed_found g s t)
unfolding boxed_found
is_run g s t = record {
  box = box_of g;
  tells = tells_boxes g;
  run = found_answers g.width g.height t (boxed_links g (box_of g) t)
      (boxed_are_links g (box_of g) t) corners s;
}

pub answers_are : AnswersAre IsBoxedRunOn boxed_found
answers_are = record {
  run = is_run;
  least = λ g s t free.
      let r = is_run g s t in run_least g r.box t r.tells s (boxed_found g s t) free r.run;
  only = λ g s t f is. one_boxed g s t f (boxed_found g s t) is (is_run g s t);
}
