use Rattle.plain_search.proofs.Answering.{answers_are}
use Rattle.plain_search.proofs.laws.answers_are_found.Goals as goal

pub returns : goal.returns
returns c = answers_are
