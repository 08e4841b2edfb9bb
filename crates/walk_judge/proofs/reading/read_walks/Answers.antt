use Rattle.walk_judge.specs.declared.fault.WalkFault.TheVariants.{NoMemory}
use Rattle.text_line.proofs.Reading.{tells_found, right_reading}
use Rattle.walk_judge.proofs.Spelling.{walks_read}
use Rattle.walk_judge.proofs.Fit.{answer_fit}
use Rattle.walk_judge.proofs.reading.read_walks.Goals as goal

pub returns-clause-reads : goal.returns-clause-reads
returns-clause-reads c =
    right_reading (walks_read c.args.entries c.args.text.now) NoMemory (λ walks. walks.items) c.read.result
    c.read.ensures

pub returns-clause-fit : goal.returns-clause-fit
returns-clause-fit c = answer_fit c.args.text.now c.args.entries c.read.result c.requires
    (tells_found (walks_read c.args.entries c.args.text.now) NoMemory (λ walks. walks.items) c.read.result
    c.read.ensures)
