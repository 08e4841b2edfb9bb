use Rattle.std.proofs.lemmas.Bool.Decides.{nat_tests}
use Rattle.std.proofs.lemmas.Grind.{common_steps}
use Rattle.std.proofs.Common.{arith}
use Rattle.open_list.proofs.Counts.{open_count_open}
use Rattle.open_list.proofs.Firsts.{flag_within}
use Rattle.open_list.proofs.pool.Pool.lower.Goals as goal

pub lower-self-inside-requires-clause-is_open : goal.lower-self-inside-requires-clause-is_open
lower-self-inside-requires-clause-is_open g c = grind (arith, nat_tests, common_steps, open_count_open)

pub lower-self-inside-requires-clause-within : goal.lower-self-inside-requires-clause-within
lower-self-inside-requires-clause-within g c = grind (arith, nat_tests, common_steps, flag_within)
