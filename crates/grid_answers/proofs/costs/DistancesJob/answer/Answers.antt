use Rattle.grid_answers.proofs.Waved.{printed-more}
use Rattle.grid_answers.proofs.costs.DistancesJob.answer.Goals as goal

pub returns-clause-worked : goal.returns-clause-worked
returns-clause-worked g c =
    printed-more c.put_costs.result c.args.self.now c.args.item c.args.lines.now.items
    c.put_costs.new.out.items
    c.put_costs.ensures
