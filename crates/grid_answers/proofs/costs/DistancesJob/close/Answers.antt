use Rattle.grid_answers.proofs.Waved.{printed-all}
use Rattle.grid_answers.proofs.costs.DistancesJob.close.Goals as goal

pub returns-clause-closed : goal.returns-clause-closed
returns-clause-closed c = printed-all c.args.self.now c.args._lines.now.items
