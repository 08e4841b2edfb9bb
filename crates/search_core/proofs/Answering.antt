-- What the jump engines' run answers is given by a function.
use Rattle.grid_moves.specs.declared.Cell.{Cell}
use Rattle.grid_moves.specs.Grid.{GridData}
use Rattle.best_first.specs.declared.state.Layout.{Layout}
use Rattle.best_first.specs.Answer.{AnswersAre}
use Rattle.best_first.proofs.Answering.{found_answers, only_answer}
use Rattle.search_core.specs.Answer.{IsJumpRun, jump_found}
use Rattle.search_core.specs.Jumps.{jump_links}
use Rattle.search_core.proofs.Least.{run_least}
use Rattle.search_core.proofs.Links.{jumps_are_links}

module _ (layout : Layout) where
  is_run : (g : GridData) (s t : Cell) → IsJumpRun layout g s t (jump_found layout g s t)
  unfolding jump_found
  is_run g s t = found_answers g.width g.height t (jump_links layout g t) (jumps_are_links layout g t)
      (λ cells. cells) s

  pub answers_are : AnswersAre (IsJumpRun layout) (jump_found layout)
  unfolding jump_found
  answers_are = record {
    run = is_run;
    least = λ g s t free. run_least layout g s t (jump_found layout g s t) free (is_run g s t);
    only = λ g s t. only_answer g.width g.height t (jump_links layout g t) (jumps_are_links layout g t)
        (λ cells. cells) s;
  }
