use Rattle.script_text.specs.Fed.{IsFeeding}
use Rattle.script_text.proofs.feeder.LineFeeder.feed.Given as goal

abbrev pub invariant-loop-byte : goal.invariant-loop-byte
invariant-loop-byte l = IsFeeding l.fn.self l.self l.piece l.byte-index l.fn.got l.got
