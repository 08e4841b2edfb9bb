use Rattle.grid_answers.specs.Printing.{row_costs}
use Rattle.grid_answers.proofs.Waved.{fields-more}
use Rattle.grid_answers.proofs.costs.put_fields.Goals as goal

pub loop-x-preserved : goal.loop-x-preserved
loop-x-preserved c =
    fields-more (row_costs c.args.waves.now c.args.y) c.loop-x.x c.args.out.now.items c.loop-x.out.items
    c.put.new.out.items c.put_field-in-loop-x.new.out.items c.cost_within-in-loop-x.result c.loop-x.invariant
    c.in_ok-put.ensures.ok c.in_ok-put_field-2.ensures c.cost_within-in-loop-x.ensures
