use Rattle.std.proofs.Common.{◌+◌, ◌<◌, Bool, ◌&&◌, ◌||◌, length, arith, ap, sym, ◌∙◌, w16, to_z, of_z}
use Rattle.std.specs.Prelude.{ℤ}
use Rattle.grid_moves.specs.declared.ring.Ring.{Ring}
use Rattle.grid_moves.specs.Ring.{leads_on}
use Rattle.pruning.specs.Turns.{is_diagonal}
use Rattle.plus_tables.specs.Rows as spec
use Rattle.plus_tables.proofs.Growing.{entry_from_across, number_more}
use Rattle.plus_tables.proofs.rows.across_by.Goals as goal

pub loop-x-preserved : goal.loop-x-preserved
loop-x-preserved c =
    let rows = c.args.rows in
    let next = c.args.next in
    let x = c.loop-x.x in
    let at = c.place_after-at.result in
    let long : x + 1 < length c.loop-x.out = omega arith in
    number_more c.loop-x.out x (to_z w16 (of_z w16 c.entry_from.result))
    (λ k (z : ℤ). spec.IsEntryAs c.args.corner rows.ahead.now rows.here.now rows.behind.now c.args.forced.now
    next.ahead.now next.right.now next.left.now c.args.d k z)
    long c.loop-x.invariant
    (rw (sym c.place_after-at.ensures.is)
    (entry_from_across (spec.legal_by c.args.corner rows.ahead.now rows.here.now rows.behind.now c.args.d x)
    (spec.flag rows.here.now (x + 1) && c.can_move.result)
    (spec.flag c.args.forced.now at || (c.is_diagonal.result &&
    (c.tells_mark.result || c.tells_mark-in-loop-x.result)))
    (spec.flag c.args.forced.now at) (is_diagonal c.args.d) c.tells_mark.result c.tells_mark-in-loop-x.result
    (spec.number next.ahead.now at) (spec.number next.right.now at) (spec.number next.left.now at)
    c.entry_from.result c.entry_from.ensures
    (ap (λ (b : Bool). spec.flag rows.here.now (x + 1) && b)
    (c.can_move.ensures ∙ ap (λ (r : Ring). leads_on c.args.corner r c.args.d) c.ring_at-ring.ensures))
    (ap (λ (b : Bool). spec.flag c.args.forced.now at ||
    (b && (c.tells_mark.result || c.tells_mark-in-loop-x.result)))
    c.is_diagonal.ensures)
    c.tells_mark.ensures c.tells_mark-in-loop-x.ensures))
