use Rattle.std.proofs.Common.{◌≡◌, ◌<◌, length}
use Rattle.components.specs.Classes.{IsForest, SameRoots, root_of}
use Rattle.components.proofs.classes.find.Given as goal

abbrev pub invariant-loop-classes : goal.invariant-loop-classes
invariant-loop-classes l = record {
  label : l.l < length l.classes;
  forest : IsForest l.classes;
  kept : SameRoots l.fn.classes l.classes;
  same : root_of l.fn.classes l.l ≡ root_of l.fn.classes l.label;
}

abbrev pub decreases-loop-classes : goal.decreases-loop-classes
decreases-loop-classes l = l.l
