use Rattle.std.proofs.Common.{arith}
use Rattle.std.proofs.lemmas.List.{take-map}
use Rattle.std.proofs.lemmas.Option.{slice_get-map, slice_get_past, slice_get_read}
use Rattle.word_list.proofs.settings.follows_at.Goals as goal

pub returns-in-None : goal.returns-in-None
returns-in-None c = grind (arith, slice_get_past, slice_get-map)

pub returns-in-Some : goal.returns-in-Some
returns-in-Some c = grind (arith, slice_get_read, take-map, slice_get-map)
