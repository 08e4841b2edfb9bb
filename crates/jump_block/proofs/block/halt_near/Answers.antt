use Rattle.std.proofs.Common.{◌≡◌, ℕ, ◌+◌, ◌*◌, ◌/◌, ◌%◌, refl, sym, subst, arith, bit_and}
use Rattle.jump_block.specs.Trail.{IsClear, begun, shows_mark}
use Rattle.jump_block.specs.Word.{AreWordsOf, IsFound, TellMoves, far, moves_before}
use Rattle.jump_block.proofs.Blocks.{word_found, word_clear, word_marks}
use Rattle.jump_block.proofs.block.halt_near.Goals as goal

pub returns-clause-halts : goal.returns-clause-halts
returns-clause-halts c = λ t near.
    let base : ℕ = c.args.from / 64 * 64 in
    let place : ℕ = c.args.from % 64 in
    let from : c.args.from ≡ base + place = omega arith in
    let own = subst (λ (f : ℕ). AreWordsOf t c.args.way f base c.args.near) from near in
    let are = c.begun-words.ensures t c.args.way base own in
    c.halt_at.ensures c.args.rule (begun c.args.rule t) 0
    (subst (λ (f : ℕ). IsFound (begun c.args.rule t) c.args.way f base 0
    (bit_and c.halts.result c.past.result)) (sym from)
    (word_found t c.args.rule c.args.way base place
    (bit_and c.halts.result c.past.result) c.halts.result c.past.result c.begun-words.result _
    (omega arith) are c.halts.ensures c.past.ensures refl))
    (subst (λ (f : ℕ). TellMoves (shows_mark c.args.rule (begun c.args.rule t)) c.args.way f base
    c.marks-marks.result) (sym from)
    (word_marks t c.args.rule c.args.way base place
    c.marks-marks.result c.begun-words.result _ (omega arith) are c.marks-marks.ensures))

pub returns-then-found-eq0-clause-clear : goal.returns-then-found-eq0-clause-clear
returns-then-found-eq0-clause-clear c = λ none t near.
    let base : ℕ = c.args.from / 64 * 64 in
    let place : ℕ = c.args.from % 64 in
    let from : c.args.from ≡ base + place = omega arith in
    let own = subst (λ (f : ℕ). AreWordsOf t c.args.way f base c.args.near) from near in
    let are = c.begun-words.ensures t c.args.way base own in
    subst (λ (f : ℕ). IsClear (begun c.args.rule t) (moves_before c.args.way f (far c.args.way base)))
    (sym from)
    (word_clear t c.args.rule c.args.way base place
    (bit_and c.halts.result c.past.result) c.halts.result c.past.result c.begun-words.result _
    (omega arith) are c.halts.ensures c.past.ensures refl c.if-found-eq0.true)
