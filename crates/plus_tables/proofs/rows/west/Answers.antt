use Rattle.std.proofs.Common.{◌≡◌, ◌+◌, ◌<◌, true, ◌&&◌, length, arith}
use Rattle.std.specs.Prelude.{ℤ}
use Rattle.plus_tables.specs.Tables.{IsShort}
use Rattle.plus_tables.specs.Rows as spec
use Rattle.plus_tables.proofs.Growing.{entry_from_read, number_after}
use Rattle.plus_tables.proofs.rows.west.Goals as goal

pub loop-x-preserved : goal.loop-x-preserved
loop-x-preserved c =
    let long : c.loop-x.x + 1 < length c.loop-x.out = omega arith in
    number_after c.loop-x.out c.loop-x.x _
    (λ k (next here : ℤ). ((spec.flag c.args.here.now (k + 1) && spec.flag c.args.here.now k) ≡ true →
    IsShort next)
    → here ≡ spec.entry_from (spec.flag c.args.here.now (k + 1) && spec.flag c.args.here.now k)
    (spec.flag c.args.forced.now k) next)
    long c.loop-x.invariant
    (entry_from_read _ _ (spec.number c.loop-x.out c.loop-x.x) c.entry_from.result c.entry_from.ensures)
