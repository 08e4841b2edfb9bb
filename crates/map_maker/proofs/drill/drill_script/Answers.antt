use Rattle.map_maker.specs.Drill.{drill_commands}
use Rattle.map_maker.specs.Drawing.{words_needed}
use Rattle.map_maker.proofs.drill.drill_script.Goals as goal

pub returns : goal.returns
unfolding drill_commands words_needed
returns c = rw c.seed_from_u64-generator.ensures at c.draw_commands.ensures
