use Rattle.scen_lines.proofs.Names.{word_name}
use Rattle.scen_lines.proofs.laws.words_name_maps.Goals as goal

pub returns : goal.returns
returns c = word_name
