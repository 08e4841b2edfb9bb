use Rattle.std.proofs.Common.{map, string_bytes}
use Rattle.word_list.specs.Request.{called}
use Rattle.word_list.proofs.Calls.{only_so, named_so}
use Rattle.word_list.proofs.reading.read_words.Goals as goal

pub returns-clause-only : goal.returns-clause-only
returns-clause-only c =
    only_so (map string_bytes c.args.words.now) (λ read. called read.0 read.1) c.read.result
    c.read.ensures.spelled

pub returns-clause-named : goal.returns-clause-named
returns-clause-named c =
    named_so (map string_bytes c.args.words.now) (λ read. called read.0 read.1) c.read.result
    c.read.ensures.spelled
