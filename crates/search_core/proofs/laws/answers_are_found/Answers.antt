use Rattle.search_core.proofs.Answering.{answers_are}
use Rattle.search_core.proofs.laws.answers_are_found.Goals as goal

pub returns : goal.returns
returns c = answers_are
