use Rattle.scen_lines.proofs.Read.{scenario_spells}
use Rattle.scen_lines.proofs.laws.written_is_read.Goals as goal

pub returns : goal.returns
returns c = scenario_spells
