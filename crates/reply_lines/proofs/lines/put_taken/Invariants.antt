use Rattle.std.proofs.Common.{◌≡◌, ◌++◌, take}
use Rattle.std.specs.Prelude.{codes}
use Rattle.cell_lines.specs.Cells.{state_text, texts_of}
use Rattle.reply_lines.proofs.lines.put_taken.Given as goal

abbrev pub invariant-loop-state : goal.invariant-loop-state
invariant-loop-state l =
    l.out.items ≡ l.fn.out.items ++ codes " taken"
    ++ texts_of (state_text l.width) (take l.state-index l.taken)
