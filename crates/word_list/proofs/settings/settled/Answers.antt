use Rattle.std.proofs.Common.{[], map, string_bytes, arith}
use Rattle.word_list.proofs.Settled.{few_settled}
use Rattle.word_list.proofs.settings.settled.Goals as goal

pub returns-clause-few : goal.returns-clause-few
returns-clause-few c =
    omega (arith, few_settled _ [] (map string_bytes c.args.words.now) _ c.count_settled.ensures)
