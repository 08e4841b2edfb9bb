use Rattle.std.proofs.Common.{arith}
use Rattle.std.proofs.lemmas.Bool.Decides.{nat_tests}
use Rattle.plus_tables.proofs.StopRead.{stop_read-first}
use Rattle.plus_tables.proofs.source.PlusJumpsJumpSource.stop.Goals as goal

pub returns-clause-first : goal.returns-clause-first
returns-clause-first g c = grind (arith, nat_tests, stop_read-first)
