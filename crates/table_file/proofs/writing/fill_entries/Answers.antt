use Rattle.std.proofs.lemmas.Bool.Decides.{nat_tests}
use Rattle.std.proofs.Common.{arith, length-set, get_or, to_z-of_z}
use Rattle.table_file.proofs.Bytes.{taken_apart}
use Rattle.table_file.proofs.Putting.{all_bytes, entry_put}
use Rattle.table_file.proofs.writing.fill_entries.Goals as goal

pub loop-at-preserved : goal.loop-at-preserved
loop-at-preserved c = grind (arith, nat_tests, get_or, to_z-of_z, length-set, entry_put, taken_apart)

pub returns : goal.returns
returns c = grind (arith, nat_tests, all_bytes)
