use Rattle.std.proofs.Common.{map, string_bytes, arith}
use Rattle.std.proofs.lemmas.List.{length-map}
use Rattle.word_list.proofs.Calls.{names_none}
use Rattle.word_list.proofs.reading.read.Goals as goal

pub returns-in_default-clause-spelled : goal.returns-in_default-clause-spelled
returns-in_default-clause-spelled c =
    names_none (map string_bytes c.args.words.now) (omega (arith, length-map c.args.words.now string_bytes))
