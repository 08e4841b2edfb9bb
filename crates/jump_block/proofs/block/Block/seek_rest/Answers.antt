use Rattle.std.proofs.lemmas.Bool.Decides.{nat_tests}
use Rattle.std.proofs.lemmas.Grind.{common_steps}
use Rattle.std.proofs.Common.{◌≡◌, ◌<◌, ℕ, ◌+◌, ◌*◌, ◌/◌, ◌%◌, sym, subst, arith}
use Rattle.bit_grid.specs.declared.lines.ThreeWords.{ThreeWords}
use Rattle.jump_block.specs.Trail.{IsClear, begun}
use Rattle.jump_block.specs.Word.{AreWordsOf, IsBlockOf, edge_before, far, moves_before, nth_word}
use Rattle.jump_block.specs.Seek.{HasPassed}
use Rattle.jump_block.proofs.Blocks.{block_later, start_ahead, start_passed, word_there}
use Rattle.jump_block.proofs.block.Block.seek_rest.Goals as goal

pub seek-requires-clause-ahead : goal.seek-requires-clause-ahead
seek-requires-clause-ahead c = grind (arith, nat_tests, common_steps, start_ahead)

pub returns : goal.returns
returns c = λ t block clear.
    let way = c.args.way in
    let rule = c.args.rule in
    let b = c.args.self.now in
    let words = c.begun-words.result in
    let start : ℕ = c.args.from / 512 * 512 in
    let w : ℕ = c.args.from % 512 / 64 in
    let place : ℕ = c.args.from % 64 in
    let from : c.args.from ≡ start + w * 64 + place = omega arith in
    let base : c.args.from / 64 * 64 ≡ start + w * 64 = omega arith in
    let low : place < 64 = omega arith in
    let high : w < 8 = omega arith in
    let there = subst (λ (f : ℕ). IsBlockOf t way f start 0 b) from block in
    let own = subst (λ (v : ThreeWords). AreWordsOf t way (start + w * 64 + place) (start + w * 64) v)
    (sym c.words.ensures) (word_there t way (start + w * 64 + place) start w b there high) in
    let are = c.begun-words.ensures t way (start + w * 64) own in
    let clear_there = subst (λ (f : ℕ). IsClear (begun rule t)
    (moves_before way f (far way (start + w * 64)))) from
    (subst (λ (n : ℕ). IsClear (begun rule t) (moves_before way c.args.from (far way n))) base clear) in
    let passed = subst (λ (f : ℕ). HasPassed (begun rule t) way f
    (edge_before way start (nth_word way w + 1)) words) (sym from)
    (start_passed t rule way start place w words b there low high are clear_there) in
    let later = subst (λ (f : ℕ). IsBlockOf (begun rule t) way f start (nth_word way w + 1) b) (sym from)
    (block_later t rule way start place w words b there low high are) in
    c.seek.ensures (begun rule t) (rw c.nth_word.ensures.is later)
    (rw c.nth_word.ensures.is passed.edges) (rw c.nth_word.ensures.is passed.clear)
