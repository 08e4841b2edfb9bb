use Rattle.std.proofs.Common.{sym, ◌∙◌}
use Rattle.text_line.specs.Places.{line_at, placed}
use Rattle.scen_text.specs.Progress.{plain_words}
use Rattle.scen_text.proofs.Lines.{entry_is, fault_is}
use Rattle.scen_text.proofs.reading.entry_on.Goals as goal

pub returns-in-Ok : goal.returns-in-Ok
returns-in-Ok c =
    entry_is (line_at c.args.line) (placed c.in-Some.bucket) c.next.new.self
    (plain_words c.in-Some-of.words)
    (sym c.of-fields.ensures.fields ∙ c.in-Some.ensures.steps) c.in-Some-of.ensures c.in-Ok.entry
    c.in-Ok.ensures

pub returns-in-Err : goal.returns-in-Err
returns-in-Err c =
    fault_is (line_at c.args.line) (placed c.in-Some.bucket) c.next.new.self
    (plain_words c.in-Some-of.words)
    (sym c.of-fields.ensures.fields ∙ c.in-Some.ensures.steps) c.in-Some-of.ensures c.in-Err.fault
    c.in-Err.ensures
