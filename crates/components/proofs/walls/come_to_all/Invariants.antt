use Rattle.std.proofs.Common.{◌≡◌, true}
use Rattle.grid_moves.specs.declared.Dir.{Dir}
use Rattle.grid_moves.specs.Move.{beyond}
use Rattle.grid_moves.specs.Ring.{is_free_on}
use Rattle.components.specs.Walls.{is_labelled}
use Rattle.components.specs.Links.{Chain}
use Rattle.components.specs.Stored.{labels_in}
use Rattle.components.proofs.walls.come_to_all.Given as goal

abbrev pub invariant-loop : goal.invariant-loop
invariant-loop l = record {
  left : Chain l.shape.eight (is_labelled (labels_in l.shape l.labels)) l.fn.start l.left.at;
  right : Chain l.shape.eight (is_labelled (labels_in l.shape l.labels)) l.fn.start l.right.at;
  met : (d : Dir) → is_free_on l.met d ≡ true
      → Chain l.shape.eight (is_labelled (labels_in l.shape l.labels)) l.fn.start (beyond d l.c);
}
