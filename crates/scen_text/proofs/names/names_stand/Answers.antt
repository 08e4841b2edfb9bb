use Rattle.scen_text.proofs.Standing.{all_stand}
use Rattle.scen_text.proofs.names.names_stand.Goals as goal

pub returns : goal.returns
returns c = all_stand
