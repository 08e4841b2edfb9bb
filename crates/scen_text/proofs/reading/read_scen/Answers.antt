use Rattle.scen_text.specs.declared.fault.ScenFault.TheVariants.{NoMemory}
use Rattle.text_line.proofs.Reading.{tells_found, right_reading}
use Rattle.scen_text.proofs.Laws.{scen_read}
use Rattle.scen_text.proofs.Few.{answer_few}
use Rattle.scen_text.proofs.Kept.{answer_kept}
use Rattle.scen_text.proofs.reading.read_scen.Goals as goal

pub returns-clause-reads : goal.returns-clause-reads
returns-clause-reads c =
    right_reading (scen_read c.args.text.now) NoMemory (λ entries. entries.items) c.read.result c.read.ensures

pub returns-clause-kept : goal.returns-clause-kept
returns-clause-kept c =
    answer_kept c.args.text.now c.read.result
    (tells_found (scen_read c.args.text.now) NoMemory (λ entries. entries.items) c.read.result c.read.ensures)

pub returns-clause-few : goal.returns-clause-few
returns-clause-few c =
    answer_few c.args.text.now c.read.result c.requires
    (tells_found (scen_read c.args.text.now) NoMemory (λ entries. entries.items) c.read.result c.read.ensures)
