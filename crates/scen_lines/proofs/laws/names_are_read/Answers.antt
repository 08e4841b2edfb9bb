use Rattle.scen_lines.proofs.NamesRead.{names_read}
use Rattle.scen_lines.proofs.laws.names_are_read.Goals as goal

pub returns : goal.returns
returns c = names_read
