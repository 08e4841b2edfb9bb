use Rattle.std.proofs.Common.{◌≡◌, refl, subst}
use Rattle.std.specs.Prelude.{IfOk}
use Rattle.grid_moves.specs.Grid.{GridData}
use Rattle.grid_moves.specs.Ruled.{rule_of_number, ruled_by}
use Rattle.plain_search.specs.Progress.{HasEnded}
use Rattle.plain_search.proofs.search.take_all_by.Goals as goal

pub returns-clause-ended : goal.returns-clause-ended
returns-clause-ended g c =
    let grid : GridData = g.T.Terrain.grid c.args.t.now in
    let same : ruled_by (rule_of_number g.row.RULE) grid ≡ grid = rw (← c.requires.rule) refl in
    subst (λ (r : GridData). IfOk c.take_all.result
    (HasEnded r c.args.ends.from c.args.ends.to c.take_all.new.space.table c.take_all.new.taken)) same
    c.take_all.ensures.ended
