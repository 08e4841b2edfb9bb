use Rattle.std.proofs.Common.{◌≡◌, ◌<◌, length}
use Rattle.components.specs.Classes.{root_of}
use Rattle.components.proofs.classes.root.Given as goal

abbrev pub invariant-loop-l : goal.invariant-loop-l
invariant-loop-l l = record {
  label : l.l < length l.classes;
  same : root_of l.classes l.l ≡ root_of l.classes l.label;
}

abbrev pub decreases-loop-l : goal.decreases-loop-l
decreases-loop-l l = l.l
