use Rattle.std.proofs.Common.{arith}
use Rattle.text_line.proofs.Placing.{room_of_pieces, bytes_of_lines}
use Rattle.text_line.proofs.places.LinesAt.of.Goals as goal

pub invariant_of-result : goal.invariant_of-result
invariant_of-result c = grind (arith, room_of_pieces)

pub returns-clause-bytes : goal.returns-clause-bytes
returns-clause-bytes c = grind (arith, bytes_of_lines)
