use Rattle.std.proofs.Common.{◌*◌}
use Rattle.jump_block.specs.Trail.{begun, trail_on}
use Rattle.jump_block.specs.Word.{moves_before, near}
use Rattle.jump_block.proofs.Around.{next_found, next_marks}
use Rattle.jump_block.proofs.block.halt_next.Goals as goal

pub returns-clause-halts : goal.returns-clause-halts
returns-clause-halts g c = λ free start is clear.
    let there = c.words_beside-words.ensures.beside start.count start.positions free start.shows in
    let more = c.has_next_word.ensures c.if-not-has_next_word.false in
    c.halt_at.ensures c.args.rule (begun c.args.rule (trail_on free c.args.way c.args.line c.args.from))
    (moves_before c.args.way c.args.from (near c.args.way (c.next_word-next.result * 64)))
    (next_found free c.args.way c.args.rule c.args.line c.args.from c.next_word-next.result _
    c.halts-found.result
    c.args.near c.begun-last.result c.words_beside-words.result is c.begun-last.ensures
    there more c.next_word-next.ensures c.halts-found.ensures clear)
    (next_marks free c.args.way c.args.rule c.args.line c.args.from c.next_word-next.result _
    c.halts-found.result
    c.args.near c.begun-last.result c.words_beside-words.result is c.begun-last.ensures
    there more c.next_word-next.ensures c.halts-found.ensures clear c.marks-marks.result
    c.marks-marks.ensures)
