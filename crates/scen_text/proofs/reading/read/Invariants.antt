use Rattle.std.proofs.Common.{◌≡◌}
use Rattle.text_line.specs.Reading.{read_behind}
use Rattle.scen_text.specs.Faults.{scen_of, line_read}
use Rattle.scen_text.proofs.reading.read.Given as goal

-- the text is read as the lines left are behind the entries so far
abbrev pub invariant-loop-line : goal.invariant-loop-line
invariant-loop-line l = scen_of l.text ≡ read_behind line_read l.entries.items l.line-iterator
