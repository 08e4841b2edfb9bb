use Rattle.std.proofs.Common.{refl, ap, ◌≢◌, List, ℕ}
use Rattle.std.specs.Prelude.{Err}
use Rattle.script_text.specs.declared.fault.ScriptFault.{ScriptFault}
use Rattle.script_text.specs.declared.fault.ScriptFault.TheVariants.{NoMemory}
use Rattle.script_text.specs.Fed.{HasTaken}
use Rattle.script_text.specs.Feeding.{IsMet}
use Rattle.script_text.proofs.Feeding.{fed-again, fed-stopped, met-there, of-passed}
use Rattle.script_text.proofs.feeder.LineFeeder.feed.Goals as goal

pub returns-in-Some-clause-fed : goal.returns-in-Some-clause-fed
returns-in-Some-clause-fed c = λ other text h.
    fed-again c.args.self.now text c.args.piece.now c.args.got.now.items c.in-Some.fault c.in-Some.is
    (λ memory. other (ap Err memory)) h

pub returns-in_err-command-clause-fed : goal.returns-in_err-command-clause-fed
returns-in_err-command-clause-fed c = λ other text h.
    let f = c.loop-byte.invariant.fed text h in
    fed-stopped text c.args.piece.now c.loop-byte.byte-index _ c.loop-byte.self c.take.new.self
    c.args.got.now.items c.loop-byte.got.items c.in_err-command.field-0.0
    c.from_residual-in_err-command.result c.loop-byte-test.true refl f
    (c.in_err-command.ensures.byte _ f.taken)
    c.from_residual-in_err-command.ensures.1 other

pub returns-in_err-command-clause-met : goal.returns-in_err-command-clause-met
returns-in_err-command-clause-met c = λ clean.
    of-passed c.from_residual-in_err-command.result c.in_err-command.field-0.0
    (λ (fault : ScriptFault). fault ≢ NoMemory → (text : List ℕ) → HasTaken c.args.self.now text
    → IsMet text c.args.piece.now c.args.self.now.taken c.take.new.self.taken fault)
    c.from_residual-in_err-command.ensures.1
    (λ other text h.
    let f = c.loop-byte.invariant.fed text h in
    met-there text c.args.piece.now c.loop-byte.byte-index _ c.args.self.now c.loop-byte.self c.take.new.self
    c.args.got.now.items c.loop-byte.got.items c.in_err-command.field-0.0 c.loop-byte-test.true refl
    c.loop-byte.invariant.counted c.take.ensures.counted f (c.in_err-command.ensures.byte _ f.taken))
