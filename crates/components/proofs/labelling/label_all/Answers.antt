use Rattle.std.proofs.Common.{arith}
use Rattle.components.specs.Stored.{class_in}
use Rattle.components.proofs.Before.{all_told}
use Rattle.components.proofs.labelling.label_all.Goals as goal

pub returns-clause-told : goal.returns-clause-told
returns-clause-told g c = all_told (g.T.Terrain.grid c.args.t.now) c.args.shape.eight
    (class_in c.args.shape c.loop-y.labels c.loop-y.classes) c.loop-y.y (omega arith) c.loop-y.invariant.told
