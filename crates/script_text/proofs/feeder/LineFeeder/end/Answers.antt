use Rattle.std.proofs.Common.{◌≡◌, ◌∙◌, ◌<◌, length, refl, sym, ap, rules}
use Rattle.std.specs.Prelude.{Some, None, Ok, Err}
use Rattle.std.proofs.lemmas.List.{append-nil}
use Rattle.script_text.proofs.Feeding.{line-taken, answers-err, ended-again, ended-clean, ended-judged}
use Rattle.script_text.proofs.feeder.LineFeeder.end.Goals as goal

pub returns-in-Some-clause-ended : goal.returns-in-Some-clause-ended
returns-in-Some-clause-ended c = λ other text h.
    ended-again c.args.self.now text c.args.got.now.items c.in-Some.fault c.in-Some.is
    (λ memory. other (ap Err memory)) h

pub returns-then-is_empty-clause-ended : goal.returns-then-is_empty-clause-ended
returns-then-is_empty-clause-ended c = λ other text h.
    ended-clean c.args.self.now text c.args.got.now.items (search rules) (search rules) h

pub returns-in_err-command-clause-ended : goal.returns-in_err-command-clause-ended
returns-in_err-command-clause-ended c = λ other text h.
    let fault = c.in_err-command.field-0.0 in
    let none : c.args.self.now.fault ≡ None = search rules in
    let some : 0 < length c.args.self.now.line.items = search rules in
    let e = c.in_err-command.ensures in
    ended-judged c.args.self.now c.complete.new.self text (Err fault) c.args.got.now.items
    c.make_room.new.got.items c.from_residual-in_err-command.result none h some e.judged
    (line-taken c.args.self.now c.complete.new.self text (Err fault) none h e.judged e.next e.kept)
    (c.make_room.ensures.unchanged ∙ sym (append-nil c.args.got.now.items))
    (answers-err c.from_residual-in_err-command.result fault (Some fault)
    c.from_residual-in_err-command.ensures.1 other refl)

pub returns-else-is_err-clause-ended : goal.returns-else-is_err-clause-ended
returns-else-is_err-clause-ended c = λ other text h.
    let none : c.args.self.now.fault ≡ None = search rules in
    let some : 0 < length c.args.self.now.line.items = search rules in
    let e = c.in_ok-command.ensures in
    ended-judged c.args.self.now c.complete.new.self text (Ok c.in_ok-command.field-0) c.args.got.now.items
    c.push.new.self.items (Ok tt) none h some e.judged
    (line-taken c.args.self.now c.complete.new.self text (Ok c.in_ok-command.field-0) none h e.judged
    e.next e.kept)
    (search rules) refl

pub returns-in_default-2-clause-ended : goal.returns-in_default-2-clause-ended
returns-in_default-2-clause-ended c = λ other text h.
    let none : c.args.self.now.fault ≡ None = search rules in
    let some : 0 < length c.args.self.now.line.items = search rules in
    let e = c.in_ok-command.ensures in
    ended-judged c.args.self.now c.complete.new.self text (Ok c.in_ok-command.field-0) c.args.got.now.items
    c.make_room.new.got.items (Ok tt) none h some e.judged
    (line-taken c.args.self.now c.complete.new.self text (Ok c.in_ok-command.field-0) none h e.judged
    e.next e.kept)
    (search rules) refl
