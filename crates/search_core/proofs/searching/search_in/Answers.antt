use Rattle.search_core.proofs.Serving.{places_so}
use Rattle.search_core.proofs.searching.search_in.Goals as goal

pub returns-clause-places : goal.returns-clause-places
returns-clause-places g c = λ h v. places_so (c.requires.places h v) c.run_counted.ensures.places
