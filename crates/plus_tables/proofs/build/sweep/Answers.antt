use Rattle.std.proofs.Common.{ℕ, refl, arith, ap, ◌∙◌, subst}
use Rattle.std.proofs.lemmas.List.{with_items_is}
use Rattle.grid_moves.specs.Grid.{GridData}
use Rattle.plus_tables.specs.Rows.{IsFlagRow}
use Rattle.plus_tables.specs.Sweep.{nth_row}
use Rattle.plus_tables.proofs.Lining.{flags_as, begun_by}
use Rattle.plus_tables.proofs.build.sweep.Goals as goal

pub loop-n-init : goal.loop-n-init
loop-n-init g c =
    let grid : GridData = g.T.Terrain.grid c.args.t.now in
    let h = c.args.heading in
    let rows = c.args.rows.now in
    let first = c.nth_row.ensures ∙ ap (λ (m : ℕ). nth_row h m 0) c.height.ensures.is in
    record {
      swept = c.requires.none;
      kept = λ some. begun_by grid c.requires.whole rows _ c.requires.blank refl refl refl refl refl
          refl h some
          (flags_as grid (nth_row h grid.height 0) c.read_row.new.row _
          (with_items_is rows.band.here c.read_row.new.row (omega arith))
          (subst (λ (m : ℕ). IsFlagRow grid m c.read_row.new.row) first c.read_row.ensures));
    }
