use Rattle.potential_make.specs.Written.{number_text}
use Rattle.cell_lines.proofs.Writing.{texts-next}
use Rattle.potential_make.proofs.writing.put_numbers.Goals as goal

pub loop-n-preserved : goal.loop-n-preserved
loop-n-preserved c =
    texts-next number_text c.args.numbers.now c.loop-n.n-index 0 c.args.out.now.items c.loop-n.out.items
    c.put_next.new.out.items c.loop-n-test.true c.loop-n.invariant c.in_ok-put_next.ensures
