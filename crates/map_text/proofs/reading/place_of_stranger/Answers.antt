use Rattle.std.proofs.Common.{arith}
use Rattle.map_text.proofs.Rows.{position_nowhere}
use Rattle.map_text.proofs.reading.place_of_stranger.Goals as goal

pub returns-then-not-has_stranger : goal.returns-then-not-has_stranger
returns-then-not-has_stranger c = grind (arith, position_nowhere)
