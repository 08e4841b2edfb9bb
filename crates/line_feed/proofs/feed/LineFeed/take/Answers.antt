use Rattle.std.proofs.lemmas.List.{take_rest}
use Rattle.line_feed.proofs.Kept.{takes-all, completes}
use Rattle.line_feed.proofs.feed.LineFeed.take.Goals as goal

pub returns-in-Some-clause-taken : goal.returns-in-Some-clause-taken
returns-in-Some-clause-taken c = λ text taken.
    let e = c.in-Some.ensures in
    rw take_rest (completes text c.args.piece.now c.in-Some.end c.hand_over.new.self c.hand_over.result
    e.0.before e.0.high e.1 c.hand_over.ensures.anew
    (c.hand_over.ensures.line _ (c.keep.ensures _ taken)))

pub returns-in-None-clause-taken : goal.returns-in-None-clause-taken
returns-in-None-clause-taken c = λ text taken.
    takes-all text c.args.piece.now _ c.in-None.ensures (c.keep-in-None.ensures _ taken)
