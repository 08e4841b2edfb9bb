use Rattle.outcome_laws.proofs.Agreeing.{lengths_agree}
use Rattle.outcome_laws.proofs.of_answers.lengths_agree.Goals as goal

pub returns : goal.returns
returns c = lengths_agree
