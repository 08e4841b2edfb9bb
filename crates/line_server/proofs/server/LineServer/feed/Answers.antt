use Rattle.std.proofs.Common.{List, ℕ, subst, sym}
use Rattle.std.proofs.lemmas.Result.{err_from_is_err_and}
use Rattle.line_server.specs.Writing.{AnswersOne, WritesText}
use Rattle.line_server.proofs.Serving.{serving-begun, serving-done, serving-more, serving-stopped}
use Rattle.line_server.proofs.server.LineServer.feed.Goals as goal

pub lines-init : goal.lines-init
lines-init g c = λ first text before h.
    serving-begun first c.args.self.now text c.args.piece.now before (g.O.Sink.outflow c.args.out.now)
    c.new-held.result.items c.new-held.ensures.items h

pub returns-in_err-put_text : goal.returns-in_err-put_text
returns-in_err-put_text g c = λ first text before h.
    let p = err_from_is_err_and c.from_residual.result c.from_residual.ensures.1 in
    let one = subst (λ (l : List ℕ). AnswersOne c.lines.self.session c.answer_to-text.new.session
    c.lines.self.show c.by.result l) (sym c.bytes.ensures) c.answer_to-text.ensures in
    rw p.1 (serving-stopped first c.lines.self text c.args.piece.now c.lines.left.now before
    (g.O.Sink.outflow c.lines.out) c.lines.held.items (c.lines.invariant first text before h) c.take.new.self
    (g.O.Sink.outflow c.put_text.new.out) c.in-Some.line c.in-Some.rest.now c.in-Some.ensures.taken
    c.by.result c.by.ensures c.answer_to-text.new.session c.bytes.result.now one
    c.in_err-put_text.ensures.put)

pub lines-preserved-in_ok-put_text : goal.lines-preserved-in_ok-put_text
lines-preserved-in_ok-put_text g c = λ first text before h.
    let one = subst (λ (l : List ℕ). AnswersOne c.lines.self.session c.answer_to-text.new.session
    c.lines.self.show c.by.result l) (sym c.bytes.ensures) c.answer_to-text.ensures in
    serving-more first c.lines.self text c.args.piece.now c.lines.left.now before
    (g.O.Sink.outflow c.lines.out) c.lines.held.items (c.lines.invariant first text before h) c.take.new.self
    (g.O.Sink.outflow c.put_text.new.out) c.in-Some.line c.in-Some.rest.now c.in-Some.ensures.taken
    c.by.result c.by.ensures c.answer_to-text.new.session c.bytes.result.now one c.put_text.new.held.items
    c.in_ok-put_text.ensures.put c.in_ok-put_text.ensures.later

pub lines-preserved : goal.lines-preserved
lines-preserved g c = λ first text before h.
    let one = subst (λ (l : List ℕ). AnswersOne c.lines.self.session c.answer_to-text.new.session
    c.lines.self.show c.by.result l) (sym c.bytes.ensures) c.answer_to-text.ensures in
    serving-more first c.lines.self text c.args.piece.now c.lines.left.now before
    (g.O.Sink.outflow c.lines.out) c.lines.held.items (c.lines.invariant first text before h) c.take.new.self
    (g.O.Sink.outflow c.put_text.new.out) c.in-Some.line c.in-Some.rest.now c.in-Some.ensures.taken
    c.by.result c.by.ensures c.answer_to-text.new.session c.bytes.result.now one c.put_text.new.held.items
    c.in_ok-put_text.ensures.put c.in_ok-put_text.ensures.later

pub returns : goal.returns
returns g c = λ first text before h.
    let at = g.O.Sink.outflow c.lines.out in
    let now = g.O.Sink.outflow c.write_text.new.out in
    serving-done first c.lines.self text c.args.piece.now c.lines.left.now before at c.lines.held.items
    (c.lines.invariant first text before h) c.take.new.self now c.in_default.ensures.taken c.write_text.result
    (subst (λ (l : List ℕ). WritesText l at now c.write_text.result) c.as_slice.ensures.value
    c.write_text.ensures.wrote) c.write_text.ensures.later
