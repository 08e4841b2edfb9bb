use Rattle.std.proofs.Common.{◌<◌, ◌∙◌, length, arith}
use Rattle.components.proofs.Roots.{halved-forest, halved-same}
use Rattle.components.proofs.classes.flatten.Goals as goal

pub loop-l-preserved : goal.loop-l-preserved
loop-l-preserved c =
    let kept = c.loop-l.invariant in
    let b : c.loop-l.l < length c.loop-l.classes = omega arith in
    record {
      forest = halved-forest c.loop-l.classes kept.forest c.loop-l.l b;
      kept = λ l. halved-same c.loop-l.classes kept.forest c.loop-l.l b l ∙ kept.kept l;
    }
