use Rattle.jump_block.proofs.Around.{near_read}
use Rattle.jump_block.proofs.near.words_beside.Goals as goal

pub returns-clause-beside : goal.returns-clause-beside
returns-clause-beside g c = λ count positions free shows.
    near_read free c.args.line c.args.word _ (c.three.ensures.middle count positions free shows)
    (c.three.ensures.before count positions free shows)
    (c.three.ensures.after count positions free shows)
