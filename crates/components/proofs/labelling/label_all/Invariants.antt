use Rattle.std.proofs.Common.{◌*◌, ◌≤◌}
use Rattle.components.specs.Labelling.{is_free_before}
use Rattle.components.specs.Links.{TellsLinked}
use Rattle.components.specs.Stored.{AreStored, class_in}
use Rattle.components.proofs.labelling.label_all.Given as goal

abbrev pub invariant-loop-y : goal.invariant-loop-y
invariant-loop-y g l = record {
  stored : AreStored l.shape l.used l.labels l.classes;
  few : l.used ≤ l.y * l.shape.width;
  told : TellsLinked l.shape.eight (is_free_before (g.T.Terrain.grid l.t) l.y 0)
      (class_in l.shape l.labels l.classes);
}
