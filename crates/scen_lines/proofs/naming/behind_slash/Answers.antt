use Rattle.scen_lines.proofs.Names.{behind_none, behind_place}
use Rattle.scen_lines.proofs.naming.behind_slash.Goals as goal

pub returns-in-Some : goal.returns-in-Some
returns-in-Some c = behind_place c.args.word.now c.in-Some.place c.in-Some.ensures

pub returns-in-None : goal.returns-in-None
returns-in-None c = behind_none c.args.word.now c.in-None.ensures
