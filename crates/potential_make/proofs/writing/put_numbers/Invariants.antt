use Rattle.std.proofs.Common.{◌≡◌, ◌++◌, take}
use Rattle.potential_make.specs.Written.{number_text, texts_of}
use Rattle.potential_make.proofs.writing.put_numbers.Given as goal

abbrev pub invariant-loop-n : goal.invariant-loop-n
invariant-loop-n l = l.out.items ≡ l.fn.out.items ++ texts_of number_text (take l.n-index l.numbers)
