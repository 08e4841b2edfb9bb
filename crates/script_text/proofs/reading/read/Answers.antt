use Rattle.std.proofs.Common.{arith}
use Rattle.script_text.proofs.Laws.{script_begun}
use Rattle.script_text.proofs.reading.read.Goals as goal

pub loop-piece-init : goal.loop-piece-init
loop-piece-init c = grind (arith, script_begun)
