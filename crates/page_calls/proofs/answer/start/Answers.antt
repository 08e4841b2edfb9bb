use Rattle.std.specs.Prelude.{map, string_bytes}
use Rattle.page_calls.proofs.Coming.{answered}
use Rattle.page_calls.proofs.answer.start.Goals as goal

pub returns-clause-answers : goal.returns-clause-answers
returns-clause-answers g c =
    answered (map string_bytes c.args.words.now) c.args.files.now.files c.args.input.now c.new-out.result
    c.run-status.new.out c.new-err.result c.run-status.new.err c.run-status.result c.new-out.ensures.written
    c.new-err.ensures.written _ _ _ c.settle.result c.run-status.ensures.right c.run-status.ensures.outcome
    c.run-status.ensures.line c.settle.ensures.status c.settle.ensures.out c.settle.ensures.err
