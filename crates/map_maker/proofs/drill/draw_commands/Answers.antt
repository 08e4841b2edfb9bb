use Rattle.std.proofs.Common.{arith}
use Rattle.std.proofs.lemmas.Bool.Decides.{nat_tests}
use Rattle.map_maker.proofs.Drawn.{command_more, commands_all}
use Rattle.map_maker.proofs.drill.draw_commands.Goals as goal

pub loop-done-preserved : goal.loop-done-preserved
loop-done-preserved c = grind (arith, nat_tests, command_more)

pub returns : goal.returns
returns c = grind (arith, nat_tests, commands_all)
