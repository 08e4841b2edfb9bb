use Rattle.outcome_laws.proofs.Commands.{called}
use Rattle.outcome_laws.proofs.of_outcomes.commands_are_called.Goals as goal

pub returns : goal.returns
returns c = called
