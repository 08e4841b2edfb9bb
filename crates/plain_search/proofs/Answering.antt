-- What the plain engine's run answers is given by a function.
use Rattle.grid_moves.specs.declared.Cell.{Cell}
use Rattle.grid_moves.specs.Grid.{GridData}
use Rattle.path_points.specs.Corners.{corners}
use Rattle.best_first.specs.Answer.{AnswersAre}
use Rattle.best_first.proofs.Answering.{found_answers, only_answer}
use Rattle.plain_search.specs.Answer.{IsPlainRun, plain_found}
use Rattle.plain_search.specs.Rule.{plain_links}
use Rattle.plain_search.proofs.Right.{run_least}
use Rattle.plain_search.proofs.Walks.{plain_are_links}

is_run : (g : GridData) (s t : Cell) → IsPlainRun g s t (plain_found g s t)
unfolding plain_found
is_run g s t = found_answers g.width g.height t (plain_links g) (plain_are_links g) corners s

pub answers_are : AnswersAre IsPlainRun plain_found
unfolding plain_found
answers_are = record {
  run = is_run;
  least = λ g s t free. run_least g s t (plain_found g s t) free (is_run g s t);
  only = λ g s t. only_answer g.width g.height t (plain_links g) (plain_are_links g) corners s;
}
