use Rattle.std.proofs.Common.{◌+◌, arith, refl}
use Rattle.grid_moves.specs.Grid.{GridData}
use Rattle.pruning.specs.declared.turns.Side.TheVariants.{Right, Left}
use Rattle.pruning.specs.Turns.{turn}
use Rattle.plus_tables.proofs.Fitting.{bordered, fits_across, long_as}
use Rattle.plus_tables.proofs.Lining.{leads_ahead, part_long, part_row, seen_as, upward_ahead, upward_beside}
use Rattle.plus_tables.proofs.Rowing.{forced_if, entries_of_row}
use Rattle.plus_tables.proofs.lines.make_ahead.Goals as goal

pub across-requires : goal.across-requires
across-requires g c =
    let grid : GridData = g.T.Terrain.grid c.args.t.now in
    let rows = c.requires.ready.2.rows in
    let long = part_long grid c.args.last.now c.requires.ready.2.long in
    fits_across (grid.width + 2) _ _ _ _ c.requires.out (bordered grid.width c.requires.whole.sides.narrow)
    (long_as c.deref-4.ensures.value c.deref-5.ensures.value c.deref-6.ensures.value
    rows.next_is.long rows.here_is.long rows.back_is.long)
    (omega (arith, c.requires.forced))
    (long_as c.part.ensures c.part-2.ensures c.part-3.ensures (long c.args.d)
    (long c.turn.result) (long c.turn-2.result))

pub returns : goal.returns
returns g c = λ h y ready around.
    let grid : GridData = g.T.Terrain.grid c.args.t.now in
    let band = c.args.band.now in
    let m = ready.rows.ahead in
    let part = part_row grid h m c.args.last.now ready.ahead_right ready.along in
    entries_of_row grid c.requires.whole h y m c.args.d
    (leads_ahead h c.args.d y m c.requires.ahead ready.rows.ahead_is)
    c.corner-corner.result c.corner-corner.ensures _ _ _ c.force.new.forced _ _ _ c.across.new.out
    (seen_as grid h y band.next.items band.here.items band.back.items _ _ _ c.deref-4.ensures.value
    c.deref-5.ensures.value c.deref-6.ensures.value around)
    (forced_if grid c.requires.whole h m _ _ _
    (λ on. seen_as grid h m band.far.items band.next.items band.here.items _ _ _ c.deref.ensures.value
    c.deref-2.ensures.value c.deref-3.ensures.value (ready.rows.around_next on))
    c.args.d c.corner-corner.result c.force.new.forced c.corner-corner.ensures
    (omega (arith, c.requires.forced)) c.force.ensures)
    (part c.args.d c.args.d (upward_ahead c.args.d c.requires.ahead) refl _ c.part.ensures)
    (part (turn Right c.args.d) c.turn.result (upward_beside Right c.args.d c.requires.ahead) c.turn.ensures _
    c.part-2.ensures)
    (part (turn Left c.args.d) c.turn-2.result (upward_beside Left c.args.d c.requires.ahead) c.turn-2.ensures
    _ c.part-3.ensures)
    (omega (arith, c.requires.out)) c.across.ensures
