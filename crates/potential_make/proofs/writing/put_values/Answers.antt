use Rattle.root2_cost.specs.declared.Cost.{Cost}
use Rattle.grid_moves.specs.declared.Cell.{Cell}
use Rattle.potential_make.specs.Written.{value_text}
use Rattle.cell_lines.proofs.Writing.{texts-next}
use Rattle.potential_make.proofs.writing.put_values.Goals as goal

pub loop-entry-preserved : goal.loop-entry-preserved
loop-entry-preserved c =
    let none : Cell × Cost = (record { x = 0; y = 0 }, record { a = 0; b = 0 }) in
    texts-next value_text c.args.values.now c.loop-entry.entry-index none c.args.out.now.items
    c.loop-entry.out.items
    c.put_value.new.out.items c.loop-entry-test.true c.loop-entry.invariant c.in_ok-put_value.ensures
