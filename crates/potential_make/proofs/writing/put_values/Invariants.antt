use Rattle.std.proofs.Common.{◌≡◌, ◌++◌, take}
use Rattle.potential_make.specs.Written.{value_text, texts_of}
use Rattle.potential_make.proofs.writing.put_values.Given as goal

abbrev pub invariant-loop-entry : goal.invariant-loop-entry
invariant-loop-entry l = l.out.items ≡ l.fn.out.items ++ texts_of value_text (take l.entry-index l.values)
