use Rattle.std.proofs.Common.{◌≡◌}
use Rattle.text_line.specs.Left.{numbered_from}
use Rattle.text_line.specs.Reading.{read_behind}
use Rattle.script_text.specs.Faults.{script_of}
use Rattle.script_text.specs.Lines.{piece_read}
use Rattle.script_text.proofs.reading.read.Given as goal

-- the text is read as the lines left are behind the commands so far
abbrev pub invariant-loop-piece : goal.invariant-loop-piece
invariant-loop-piece l = script_of l.text ≡ read_behind piece_read l.commands.items
    (numbered_from l.piece-iterator.number l.piece-iterator.lines)
