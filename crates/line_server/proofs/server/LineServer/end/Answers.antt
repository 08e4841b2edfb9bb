use Rattle.std.proofs.Common.{List, ℕ, subst}
use Rattle.line_server.specs.Writing.{WritesText, bytes_of}
use Rattle.line_server.proofs.Serving.{ended-one}
use Rattle.line_server.proofs.server.LineServer.end.Goals as goal

pub returns-in-Some : goal.returns-in-Some
returns-in-Some g c = λ first text before h.
    let at = g.O.Sink.outflow c.args.out.now in
    let now = g.O.Sink.outflow c.write_text.new.out in
    ended-one first c.args.self.now text before at h c.end.new.self c.in-Some.line
    (c.in-Some.ensures.last text h.fed) c.by.result c.by.ensures c.answer_to-text.new.session
    (bytes_of c.answer_to-text.result) c.answer_to-text.ensures
    now c.write_text.result
    (subst (λ (l : List ℕ). WritesText l at now c.write_text.result) c.bytes.ensures
    c.write_text.ensures.wrote)
    c.write_text.ensures.later
