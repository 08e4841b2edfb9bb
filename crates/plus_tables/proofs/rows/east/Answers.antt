use Rattle.std.proofs.Common.{◌≡◌, ◌+◌, ◌-◌, ◌<◌, true, ◌&&◌, length, arith, w16, to_z, of_z, length-set}
use Rattle.std.specs.Prelude.{ℤ}
use Rattle.plus_tables.specs.Tables.{IsShort}
use Rattle.plus_tables.specs.Rows as spec
use Rattle.plus_tables.proofs.Growing.{entry_from_read, number_before}
use Rattle.plus_tables.proofs.rows.east.Goals as goal

pub loop-x-preserved : goal.loop-x-preserved
loop-x-preserved c =
    let x = c.loop-x.x - 1 in
    let long : x + 1 < length c.loop-x.out = omega arith in
    let value : ℤ = to_z w16 (of_z w16 c.entry_from.result) in
    let same = length-set c.loop-x.out (x + 1) value in
    λ k from upto.
    let below : k < length c.loop-x.out - 2 = omega arith in
    number_before c.loop-x.out x (length c.loop-x.out - 2) value
    (λ k (next here : ℤ). ((spec.flag c.args.here.now (k + 1) && spec.flag c.args.here.now (k + 2)) ≡ true
    → IsShort next)
    → here ≡ spec.entry_from (spec.flag c.args.here.now (k + 1) && spec.flag c.args.here.now (k + 2))
    (spec.flag c.args.forced.now (k + 2)) next)
    long (λ k more upto. c.loop-x.invariant k (omega arith) upto)
    (entry_from_read _ _ (spec.number c.loop-x.out (x + 2)) c.entry_from.result c.entry_from.ensures) k from
    below
