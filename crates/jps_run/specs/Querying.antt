-- What the work on one query comes to.
use Rattle.std.specs.Prelude.{ℕ, List}
use Rattle.grid_moves.specs.declared.Cell.{Cell}
use Rattle.word_list.specs.declared.request.Show.{Show}
use Rattle.jps_run.specs.Answers.{query_line}
use Rattle.jps_run.specs.Parts.{Prints, printed}
use Rattle.jps_run.specs.Rising.{RoseForQuery}
use Rattle.jps_run.specs.Works.{CanPerform, HasRisen, IsWhole}
use Rattle.jps_run.specs.Who.{Who, replies_by}
use Rattle.jps_run.specs.declared.work.Work.{Work}

-- what the work prints is the line of the reply, with status 0, and it counts what the one who answers counts
pub record IsQueryWork (who : Who) (show : Show) (s t : Cell) (work : Work) : Type 0 where
  pub can : CanPerform work
  pub right : (lines : List (List ℕ)) (status : ℕ) → IsWhole work lines status
      → Prints (printed (query_line (replies_by who.by) show who.layers s t) 0) lines status
  pub counted : (old new : ℕ) → HasRisen work old new → RoseForQuery who s t old new
