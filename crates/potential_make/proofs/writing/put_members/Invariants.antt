use Rattle.std.proofs.Common.{◌≡◌, ◌++◌, take}
use Rattle.potential_make.specs.Written.{member_text, texts_of}
use Rattle.potential_make.proofs.writing.put_members.Given as goal

abbrev pub invariant-loop-c : goal.invariant-loop-c
invariant-loop-c l = l.out.items ≡ l.fn.out.items ++ texts_of member_text (take l.c-index l.cells)
