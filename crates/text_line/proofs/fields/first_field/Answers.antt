use Rattle.std.proofs.Common.{arith}
use Rattle.std.proofs.lemmas.List.{take_rest}
use Rattle.text_line.proofs.Placing.{fields_from_none, first_ends, first_is_last}
use Rattle.text_line.proofs.fields.first_field.Goals as goal

pub returns-in_err-from : goal.returns-in_err-from
returns-in_err-from c = grind (arith, fields_from_none)

pub returns-in-Some : goal.returns-in-Some
returns-in-Some c = grind (arith, take_rest, first_ends)

pub returns-in-None : goal.returns-in-None
returns-in-None c = grind (arith, take_rest, first_is_last)
