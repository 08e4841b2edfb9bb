use Rattle.map_text.specs.declared.fault.MapFault.TheVariants.{NoMemory}
use Rattle.map_text.specs.Faults.{plain}
use Rattle.text_line.proofs.Reading.{right_reading}
use Rattle.map_text.proofs.Laws.{map_read}
use Rattle.map_text.proofs.reading.read_map.Goals as goal

pub returns : goal.returns
returns c = right_reading (map_read c.args.text.now) NoMemory plain c.read.result c.read.ensures
