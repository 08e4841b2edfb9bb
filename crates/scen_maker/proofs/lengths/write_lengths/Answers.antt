use Rattle.scen_maker.proofs.Listed.{lengths-complete}
use Rattle.scen_maker.proofs.lengths.write_lengths.Goals as goal

pub work_below-requires-clause-completes : goal.work_below-requires-clause-completes
work_below-requires-clause-completes g c = lengths-complete
