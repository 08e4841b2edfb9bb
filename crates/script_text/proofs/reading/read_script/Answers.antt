use Rattle.script_text.specs.declared.fault.ScriptFault.TheVariants.{NoMemory}
use Rattle.text_line.proofs.Reading.{right_reading}
use Rattle.script_text.proofs.Laws.{script_read}
use Rattle.script_text.proofs.reading.read_script.Goals as goal

pub returns : goal.returns
returns c =
    right_reading (script_read c.args.text.now) NoMemory (λ commands. commands.items) c.read.result
    c.read.ensures
