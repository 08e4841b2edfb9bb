use Rattle.search_run.proofs.Parents.{parent_offers}
use Rattle.search_run.proofs.laws.parents_offers_stand.Goals as goal

pub returns : goal.returns
returns g c = parent_offers
