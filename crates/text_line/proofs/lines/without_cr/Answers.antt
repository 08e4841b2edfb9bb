use Rattle.std.proofs.Common.{arith}
use Rattle.text_line.proofs.Cut.{without_cr_cut, without_cr_same}
use Rattle.text_line.proofs.lines.without_cr.Goals as goal

pub returns-in-13 : goal.returns-in-13
returns-in-13 c = grind (arith, without_cr_cut)

pub returns-in_default-2 : goal.returns-in_default-2
returns-in_default-2 c = grind (arith, without_cr_same)
