use Rattle.script_text.proofs.Cuts.{script-by}
use Rattle.script_text.proofs.pieces.pieces_are_the_whole.Goals as goal

pub returns : goal.returns
returns c = script-by
