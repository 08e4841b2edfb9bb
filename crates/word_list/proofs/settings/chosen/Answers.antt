use Rattle.std.proofs.Common.{arith}
use Rattle.word_list.proofs.Settled.{bytes_at, chosen_more}
use Rattle.word_list.proofs.settings.chosen.Goals as goal

pub loop-word-preserved : goal.loop-word-preserved
loop-word-preserved c = grind (arith, bytes_at, chosen_more)
