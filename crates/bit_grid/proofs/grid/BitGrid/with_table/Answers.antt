use Rattle.bit_grid.proofs.Packing.{bits_turned, has_room}
use Rattle.bit_grid.proofs.grid.BitGrid.with_table.Goals as goal

pub invariant_of-result : goal.invariant_of-result
invariant_of-result c = has_room _ c.args.grid.now
    (bits_turned c.args.grid.now c.in_ok-rows.rows c.in_ok-columns.columns _ _ _ c.width-width.ensures.whole
    c.width-width.ensures.is c.height-height.ensures.is c.requires
    c.in_ok-rows.ensures c.in_ok-columns.ensures)

pub returns : goal.returns
returns c = bits_turned c.args.grid.now c.in_ok-rows.rows c.in_ok-columns.columns _ _ _
    c.width-width.ensures.whole c.width-width.ensures.is c.height-height.ensures.is
    c.requires c.in_ok-rows.ensures c.in_ok-columns.ensures
