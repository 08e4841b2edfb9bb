use Rattle.outcome_laws.proofs.Agreeing.{problems_agree}
use Rattle.outcome_laws.proofs.of_answers.problems_agree.Goals as goal

pub returns : goal.returns
returns c = problems_agree
