use Rattle.std.proofs.Common.{◌≤◌, length, refl, sym, subst, rules}
use Rattle.std.proofs.lemmas.Bool.{ne_eqb}
use Rattle.script_text.specs.Fed.{HasTakenByte}
use Rattle.script_text.proofs.Feeding.{line-taken, byte-taken, byte-refused}
use Rattle.script_text.proofs.feeder.LineFeeder.take.Goals as goal

pub returns-then-byte-eq10-clause-byte : goal.returns-then-byte-eq10-clause-byte
returns-then-byte-eq10-clause-byte c = λ text h.
    subst (λ b. HasTakenByte text b c.complete.new.self c.complete.result) (sym c.if-byte-eq10.true)
    (line-taken c.args.self.now c.complete.new.self text c.complete.result c.requires.clean h
    c.complete.ensures.judged c.complete.ensures.next c.complete.ensures.kept)

pub returns-then-is_full-clause-byte : goal.returns-then-is_full-clause-byte
returns-then-is_full-clause-byte c = λ text h.
    let full : 128 ≤ length c.args.self.now.line.items = search (rules, c.if-is_full.true) in
    byte-refused c.args.self.now text c.args.byte c.requires.clean h
    (ne_eqb c.args.byte 10 c.if-byte-eq10.false)
    _ full refl

pub returns-clause-byte : goal.returns-clause-byte
returns-clause-byte c = λ text h.
    byte-taken c.args.self.now text c.args.byte c.requires.clean h
    (ne_eqb c.args.byte 10 c.if-byte-eq10.false)
    _ (search rules) refl c.push.ensures.items c.requires.clean
