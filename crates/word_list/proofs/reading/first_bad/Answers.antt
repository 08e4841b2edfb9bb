use Rattle.std.proofs.Common.{arith}
use Rattle.std.proofs.lemmas.Bool.Decides.{nat_tests}
use Rattle.std.proofs.Common.{string_bytes}
use Rattle.std.proofs.lemmas.List.{length-map}
use Rattle.word_list.proofs.Calls.{stops_at_end}
use Rattle.word_list.proofs.reading.first_bad.Goals as goal

pub returns-in-Ok : goal.returns-in-Ok
returns-in-Ok c = grind (arith, nat_tests, length-map, stops_at_end, string_bytes)
