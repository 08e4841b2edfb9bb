use Rattle.jump_block.proofs.Around.{near_again}
use Rattle.jump_block.proofs.near.words_near.Goals as goal

pub returns-clause-near : goal.returns-clause-near
returns-clause-near g c = λ free start.
    near_again free c.args.line c.args.place c.words_beside.result
    (c.words_beside.ensures.beside start.count start.positions free start.shows)
