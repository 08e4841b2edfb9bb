use Rattle.std.proofs.Common.{ap, arith, length, List}
use Rattle.std.specs.List.{list_all}
use Rattle.grid_moves.specs.declared.Cell.{Cell}
use Rattle.potential_check.specs.Certificate.{is_short}
use Rattle.potential_check.proofs.Words.{points_begun}
use Rattle.potential_check.proofs.forms.points_on.Goals as goal

pub loop-point-init : goal.loop-point-init
loop-point-init c = record {
  points = points_begun c.args.line.now c.new-points.result c.after_word.result c.in-Some.rest
      c.new-points.ensures c.in-Some.is c.after_word.ensures.words;
  short = ap (λ (l : List Cell). list_all is_short l) c.new-points.ensures;
  few = omega (arith, ap (λ (l : List Cell). length l) c.new-points.ensures, c.in-Some.ensures.shorter);
}
