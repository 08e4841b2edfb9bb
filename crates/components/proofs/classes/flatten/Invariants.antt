use Rattle.components.specs.Classes.{IsForest, SameRoots}
use Rattle.components.proofs.classes.flatten.Given as goal

abbrev pub invariant-loop-l : goal.invariant-loop-l
invariant-loop-l l = record { forest : IsForest l.classes; kept : SameRoots l.fn.classes l.classes }
