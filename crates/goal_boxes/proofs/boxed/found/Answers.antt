use Rattle.std.proofs.Common.{◌∙◌, ap, refl}
use Rattle.path_points.specs.Corners.{corners}
use Rattle.best_first.proofs.Answering.{found_back}
use Rattle.best_first.proofs.Progress.{has_back}
use Rattle.plain_search.proofs.Posed.{fit}
use Rattle.goal_boxes.proofs.Moves.{boxed_asked}
use Rattle.goal_boxes.proofs.Right.{found_least}
use Rattle.goal_boxes.proofs.boxed.found.Goals as goal

pub way_to-requires : goal.way_to-requires
way_to-requires g c =
    has_back (fit (boxed_asked (g.T.Terrain.grid c.args.t.now) g.K.Meant.boxes c.args.ends.from c.args.ends.to
    c.requires.whole c.requires.from c.requires.to)) c.requires.taken

pub returns : goal.returns
returns g c =
    let grid = g.T.Terrain.grid c.args.t.now in
    let asked = boxed_asked grid g.K.Meant.boxes c.args.ends.from c.args.ends.to c.requires.whole
    c.requires.from
    c.requires.to in
    let run = found_back (fit asked) corners c.requires.taken c.requires.goal c.in_ok-points.points
    c.in_ok-way.way.points c.in_ok-way.way.cost c.in_ok-way.ensures
    (c.in_ok-points.ensures ∙ ap corners c.as_slice.ensures) in
    record {
      run = run;
      least = found_least grid g.K.Meant.boxes c.args.ends.to c.requires.boxes c.args.ends.from
          c.in_ok-points.points
          c.in_ok-way.way.cost c.args.taken c.requires.from run;
      taken = refl;
    }
