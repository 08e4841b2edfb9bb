use Rattle.std.proofs.Common.{◌<◌, ◌∙◌, ℕ, subst}
use Rattle.goal_boxes.proofs.Storing.{holds_all}
use Rattle.goal_boxes.proofs.boxes.Boxes.build.Goals as goal

pub add_row-requires : goal.add_row-requires
add_row-requires g c = record {
  whole = c.width-width.ensures.whole;
  row = subst (λ (n : ℕ). c.loop-y.y < n) c.height-height.ensures.is c.loop-y-test.true;
  width = c.loop-y.invariant.width;
  height = c.loop-y.invariant.height;
  before = c.loop-y.invariant.before;
}

pub loop-y-preserved : goal.loop-y-preserved
loop-y-preserved g c = record {
  width = c.add_row.ensures.width ∙ c.loop-y.invariant.width;
  height = c.add_row.ensures.height ∙ c.loop-y.invariant.height;
  before = c.in_ok-add_row.ensures.before;
}

pub returns : goal.returns
returns g c =
    holds_all (g.T.Terrain.grid c.args.t.now) c.of_cells.result c.loop-y.cells.items c.height-height.result
    c.loop-y.y (c.of_cells.ensures.width ∙ c.width-width.ensures.is)
    (c.of_cells.ensures.height ∙ c.height-height.ensures.is) c.of_cells.ensures.cells
    c.height-height.ensures.is c.loop-y-test.false c.loop-y.auto.y-end c.loop-y.invariant.before
