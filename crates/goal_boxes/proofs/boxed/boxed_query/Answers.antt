use Rattle.goal_boxes.specs.Made.{box_of}
use Rattle.goal_boxes.proofs.Existing.{ran_on_grid, tells_boxes}
use Rattle.goal_boxes.proofs.boxed.boxed_query.Goals as goal

pub run_alone-requires-clause-boxes : goal.run_alone-requires-clause-boxes
run_alone-requires-clause-boxes g c = tells_boxes (g.T.Terrain.grid c.args.t.now)

pub returns-clause-run : goal.returns-clause-run
returns-clause-run g c =
    let grid = g.T.Terrain.grid c.args.t.now in
    ran_on_grid grid (box_of grid) c.args.from c.args.to c.run_alone.result (tells_boxes grid)
    c.run_alone.ensures.run
