-- The first broken line of a text, and what a text is read as.
use Rattle.std.specs.Prelude.{ℕ, List, Result}
use Rattle.std.specs.Global.{Vec}
use Rattle.text_line.specs.Left.{numbered_pieces}
use Rattle.text_line.specs.Reading as lines
use Rattle.script_text.specs.declared.command.ScriptCommand.{ScriptCommand}
use Rattle.script_text.specs.declared.fault.ScriptFault.{ScriptFault}
use Rattle.script_text.specs.declared.fault.ScriptFault.TheVariants.{NoMemory}
use Rattle.script_text.specs.Lines.{piece_read}

-- the first line of a text that breaks the grammar breaks it so
abbrev pub BreaksFirst : List ℕ → ScriptFault → Type 0
BreaksFirst text fault = lines.BreaksFirst (lines.fault_on piece_read (numbered_pieces text)) fault

-- what a text is read as: its commands, or the fault of its first broken line
unfoldable pub script_of : List ℕ → Result (List ScriptCommand) ScriptFault
script_of text = lines.read_lines piece_read (numbered_pieces text)

-- an answer tells a reading; for want of memory it tells nothing
abbrev pub Tells : Result (Vec ScriptCommand) ScriptFault → Result (List ScriptCommand) ScriptFault → Type 0
Tells answer read = lines.Tells NoMemory (λ commands. commands.items) answer read
