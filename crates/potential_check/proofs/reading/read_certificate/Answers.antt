use Rattle.text_line.proofs.Reading.{right_reading}
use Rattle.potential_check.specs.Text.{certificate_of, plain}
use Rattle.potential_check.specs.declared.fault.CertFault.TheVariants.{NoMemory}
use Rattle.potential_check.proofs.Breaking.{as_reading, certificate_read}
use Rattle.potential_check.proofs.reading.read_certificate.Goals as goal

pub returns : goal.returns
returns c = right_reading (certificate_read c.args.text.now) NoMemory plain c.read.result
    (as_reading c.read.result (certificate_of c.args.text.now) c.read.ensures)
