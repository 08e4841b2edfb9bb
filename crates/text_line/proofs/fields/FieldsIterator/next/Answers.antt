use Rattle.std.proofs.Common.{arith}
use Rattle.std.proofs.lemmas.Bool.Decides.{nat_tests}
use Rattle.std.proofs.lemmas.List.{take_rest}
use Rattle.text_line.proofs.Placing.{fields_of_none, fields_of_first}
use Rattle.text_line.proofs.fields.FieldsIterator.next.Goals as goal

pub returns-in_err-from-clause-steps : goal.returns-in_err-from-clause-steps
returns-in_err-from-clause-steps c = grind (arith, nat_tests, fields_of_none)

pub returns-clause-steps : goal.returns-clause-steps
returns-clause-steps c = grind (arith, take_rest, fields_of_first)

pub returns-clause-goes : goal.returns-clause-goes
returns-clause-goes c = grind (arith, nat_tests, take_rest, fields_of_first)
