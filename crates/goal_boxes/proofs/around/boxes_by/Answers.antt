use Rattle.std.proofs.Common.{◌∙◌}
use Rattle.goal_boxes.proofs.around.boxes_by.Goals as goal

pub returns-clause-boxes : goal.returns-clause-boxes
returns-clause-boxes g c =
    c.boxes_of_waves.ensures (g.T.Terrain.grid c.args.t.now) c.args.u
    (c.in_ok-pass.ensures.width ∙ c.requires.width) (c.in_ok-pass.ensures.height ∙ c.requires.height)
    c.in_ok-pass.ensures.tells
