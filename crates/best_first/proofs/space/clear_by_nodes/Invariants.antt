use Rattle.std.proofs.Common.{◌≡◌, length}
use Rattle.best_first.specs.Index.{cell_of_node, AreLed}
use Rattle.best_first.proofs.space.clear_by_nodes.Given as goal

abbrev pub invariant-loop-id : goal.invariant-loop-id
invariant-loop-id l = record {
  led : AreLed (cell_of_node l.width l.pool.nodes) l.id (length l.pool.nodes) l.heads;
  as_many : length l.heads ≡ length l.initial.heads;
}
