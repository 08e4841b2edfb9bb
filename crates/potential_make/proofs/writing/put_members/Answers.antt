use Rattle.grid_moves.specs.declared.Cell.{Cell}
use Rattle.potential_make.specs.Written.{member_text}
use Rattle.cell_lines.proofs.Writing.{texts-next}
use Rattle.potential_make.proofs.writing.put_members.Goals as goal

pub loop-c-preserved : goal.loop-c-preserved
loop-c-preserved c =
    let none : Cell = record { x = 0; y = 0 } in
    texts-next member_text c.args.cells.now c.loop-c.c-index none c.args.out.now.items c.loop-c.out.items
    c.put_member.new.out.items c.loop-c-test.true c.loop-c.invariant c.in_ok-put_member.ensures
