use Rattle.std.proofs.Common.{ap, sym}
use Rattle.map_maker.specs.Drill.{query_of}
use Rattle.map_maker.proofs.Drawn.{four_words, four_after}
use Rattle.map_maker.proofs.drill.draw_query.Goals as goal

pub returns-clause-made : goal.returns-clause-made
returns-clause-made c =
    ap query_of (sym (four_words c.args.generator.now c.next_word-sx.ensures
    c.next_word-sy.ensures c.next_word-gx.ensures c.next_word-gy.ensures))

pub returns-clause-left : goal.returns-clause-left
returns-clause-left c =
    four_after c.args.generator.now c.next_word-sx.ensures
    c.next_word-sy.ensures c.next_word-gx.ensures c.next_word-gy.ensures
