use Rattle.std.proofs.Common.{◌∙◌, sym, ap, length, arith}
use Rattle.grid_moves.specs.declared.Cell.{Cell}
use Rattle.grid_moves.specs.Grid.{cell_number}
use Rattle.best_first.specs.Index.{cell_of_node}
use Rattle.best_first.proofs.Forgetting.{led_next, led_none, node-cell}
use Rattle.std.proofs.lemmas.List.{length-set}
use Rattle.best_first.proofs.space.clear_by_nodes.Goals as goal

pub loop-id-preserved : goal.loop-id-preserved
loop-id-preserved c =
    let own_cell = node-cell c.args.width c.args.pool.now.nodes c.loop-id.id c.node.result.now c.node.ensures
    ∙ ap (λ (d : Cell). cell_number c.args.width d) (sym c.cell.ensures) ∙ sym c.number_of-cell.ensures in
    record {
      led = led_next (cell_of_node c.args.width c.args.pool.now.nodes) (length c.args.pool.now.nodes)
          c.loop-id.id c.number_of-cell.result c.loop-id.heads c.loop-id.invariant.led own_cell;
      as_many = grind (arith, length-set);
    }

pub returns-clause-blank : goal.returns-clause-blank
returns-clause-blank c =
    led_none (cell_of_node c.args.width c.args.pool.now.nodes) (length c.args.pool.now.nodes) c.loop-id.id
    c.loop-id.heads c.loop-id.invariant.led (omega (arith, c.len-id-end.ensures.value, c.loop-id-test.false))
