use Rattle.std.proofs.Common.{◌≡◌, ◌++◌, [], ◌∷◌, ◌+◌, arith, drop, map, string_bytes, subst, sym, ap, ◌∙◌}
use Rattle.std.proofs.lemmas.Grind.{common_steps}
use Rattle.page_calls.specs.Handed.{AreTexts, words_behind, words_in}
use Rattle.page_calls.proofs.Texts.{text_among}
use Rattle.page_calls.proofs.handed.words_of.Goals as goal

pub returns-in-Err-clause-some : goal.returns-in-Err-clause-some
returns-in-Err-clause-some c = λ _ all.
    let bytes = c.args.bytes.now in
    let words = map string_bytes c.loop-byte.words.items in
    let word = c.loop-byte.word.items in
    let behind = words_behind [] (drop (c.loop-byte.byte-index + 1) bytes) in
    let ends : words_behind word (drop c.loop-byte.byte-index bytes) ≡ word
    ∷ behind = grind (arith, common_steps) in
    let are : words_in bytes ≡ words ++ word ∷ behind = sym c.loop-byte.invariant
    ∙ ap (λ found. words ++ found) ends in
    let never = c.in-Err.ensures.succeeds (text_among words word behind (subst AreTexts are all)) in
    grind (arith, never)
