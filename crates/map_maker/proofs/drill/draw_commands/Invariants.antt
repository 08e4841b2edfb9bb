use Rattle.map_maker.proofs.Drawn.{AreCommands}
use Rattle.map_maker.proofs.drill.draw_commands.Given as goal

-- the commands behind are those of the words behind
abbrev pub invariant-loop-done : goal.invariant-loop-done
invariant-loop-done l = AreCommands l.count l.initial.generator l.done l.commands.items l.generator
