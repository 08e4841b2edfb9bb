use Rattle.grid_answers.proofs.Waved.{printed-complete}
use Rattle.grid_answers.proofs.costs.write_costs.Goals as goal

pub work_items-requires-clause-completes : goal.work_items-requires-clause-completes
work_items-requires-clause-completes g c = printed-complete
