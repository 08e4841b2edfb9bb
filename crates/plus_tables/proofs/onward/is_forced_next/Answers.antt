use Rattle.std.proofs.Common.{arith}
use Rattle.std.proofs.lemmas.Bool.Decides.{nat_tests}
use Rattle.grid_moves.proofs.Ahead.{legal_ahead-free}
use Rattle.pruning.proofs.Bridging.{legal_leads}
use Rattle.jump_plain.proofs.Forcing.{is_forced-there}
use Rattle.plus_tables.proofs.onward.is_forced_next.Goals as goal

pub of-requires-else-is_diagonal-clause-free : goal.of-requires-else-is_diagonal-clause-free
of-requires-else-is_diagonal-clause-free g c =
    legal_ahead-free _ c.args.at c.args.next c.args.d c.requires.legal

pub forced-requires : goal.forced-requires
forced-requires g c = record { free = legal_ahead-free _ c.args.at c.args.next c.args.d c.requires.legal }

pub returns-else-is_diagonal : goal.returns-else-is_diagonal
returns-else-is_diagonal g c = grind (arith, nat_tests, is_forced-there, legal_leads)
