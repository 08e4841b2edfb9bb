use Rattle.jps_run.proofs.Judged.{rulings-complete}
use Rattle.jps_run.proofs.replies.judge.write_rulings.Goals as goal

pub work_items-requires-clause-completes : goal.work_items-requires-clause-completes
work_items-requires-clause-completes g c = rulings-complete
