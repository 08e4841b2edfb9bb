use Rattle.std.proofs.Common.{arith}
use Rattle.std.proofs.lemmas.List.{take_rest, take_all, drop_all}
use Rattle.text_line.proofs.Cut.{pieces_of_cut, pieces_of_one}
use Rattle.text_line.proofs.lines.first_piece.Goals as goal

pub returns-in-Some-clause-cut : goal.returns-in-Some-clause-cut
returns-in-Some-clause-cut c = grind (arith, take_rest, pieces_of_cut)

pub returns-in-None-clause-cut : goal.returns-in-None-clause-cut
returns-in-None-clause-cut c = grind (arith, pieces_of_one, take_all, drop_all)
