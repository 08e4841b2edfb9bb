use Rattle.std.proofs.Common.{refl}
use Rattle.std.proofs.lemmas.Result.{err_from_is_err_and}
use Rattle.map_text.proofs.Header.{stands_first, words_right, words_wrong, side_right, side_wrong, side_named}
use Rattle.map_text.proofs.reading.header.Goals as goal

pub returns-in_err-width : goal.returns-in_err-width
returns-in_err-width c =
    let lines = c.args.lines.now.lines in
    let first = words_right lines 0 c.args.lines.now c.next.new.self c.next.result
    (stands_first c.args.lines.now c.requires) c.next.ensures.steps 1 _ refl c.if-not-has_words.ensures in
    let second = side_right lines 1 c.next.new.self c.next-2.new.self c.next-2.result first
    c.next-2.ensures.steps 2 _ refl c.in_ok-height.ensures.0 in
    let wrong = side_wrong lines 2 c.next-2.new.self c.next-3.new.self c.next-3.result second
    c.next-3.ensures.steps 3 _ refl c.in_err-width.field-0.0 c.in_err-width.ensures in
    let p = err_from_is_err_and c.from_residual-in_err-width.result c.from_residual-in_err-width.ensures.1 in
    rw (p.1, p.2) wrong

pub returns-then-not-has_words-2 : goal.returns-then-not-has_words-2
returns-then-not-has_words-2 c =
    let lines = c.args.lines.now.lines in
    let first = words_right lines 0 c.args.lines.now c.next.new.self c.next.result
    (stands_first c.args.lines.now c.requires) c.next.ensures.steps 1 _ refl c.if-not-has_words.ensures in
    let second = side_right lines 1 c.next.new.self c.next-2.new.self c.next-2.result first
    c.next-2.ensures.steps 2 _ refl c.in_ok-height.ensures.0 in
    let third = side_right lines 2 c.next-2.new.self c.next-3.new.self c.next-3.result second
    c.next-3.ensures.steps 3 _ refl c.in_ok-width.ensures.0 in
    words_wrong lines 3 c.next-3.new.self c.next-4.new.self c.next-4.result third c.next-4.ensures.steps 4 _
    refl c.if-not-has_words-2.ensures

pub returns : goal.returns
returns c =
    let lines = c.args.lines.now.lines in
    let first = words_right lines 0 c.args.lines.now c.next.new.self c.next.result
    (stands_first c.args.lines.now c.requires) c.next.ensures.steps 1 _ refl c.if-not-has_words.ensures in
    let second = side_right lines 1 c.next.new.self c.next-2.new.self c.next-2.result first
    c.next-2.ensures.steps 2 _ refl c.in_ok-height.ensures.0 in
    let third = side_right lines 2 c.next-2.new.self c.next-3.new.self c.next-3.result second
    c.next-3.ensures.steps 3 _ refl c.in_ok-width.ensures.0 in
    record {
      stands = words_right lines 3 c.next-3.new.self c.next-4.new.self c.next-4.result third
          c.next-4.ensures.steps 4 _ refl c.if-not-has_words-2.ensures;
      height = side_named lines 1 c.next.new.self c.next-2.new.self c.next-2.result first
          c.next-2.ensures.steps _ c.in_ok-height.height c.in_ok-height.ensures.1;
      width = side_named lines 2 c.next-2.new.self c.next-3.new.self c.next-3.result second
          c.next-3.ensures.steps _ c.in_ok-width.width c.in_ok-width.ensures.1;
    }
