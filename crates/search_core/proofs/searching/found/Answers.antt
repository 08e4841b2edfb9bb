use Rattle.search_core.proofs.Standing.{leads_back, found_at}
use Rattle.search_core.proofs.searching.found.Goals as goal

pub way_to-requires : goal.way_to-requires
way_to-requires g c =
    let some = c.requires.some in leads_back some.1 (c.requires.reached some.0 some.1)

pub returns-clause-run : goal.returns-clause-run
returns-clause-run g c = λ x served. found_at served (c.requires.reached x served) c.requires.goal
    c.in_ok-way.way.points c.in_ok-way.way.cost c.in_ok-way.ensures
