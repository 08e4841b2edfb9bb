use Rattle.text_line.proofs.Placing.{bytes_of_fields}
use Rattle.text_line.proofs.places.FieldsAt.of.Goals as goal

pub returns-clause-bytes : goal.returns-clause-bytes
returns-clause-bytes c = bytes_of_fields c.args.line.place c.args.line.bytes.now
