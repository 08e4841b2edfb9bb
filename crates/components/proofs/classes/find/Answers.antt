use Rattle.std.proofs.Common.{◌≡◌, ◌<◌, ◌≤◌, ◌∙◌, sym, get_or, arith, length, length-set, set}
use Rattle.components.proofs.Roots.{halved-forest, halved-root, halved-same, root-itself, two-down}
use Rattle.components.proofs.classes.find.Goals as goal

pub loop-classes-preserved : goal.loop-classes-preserved
loop-classes-preserved c =
    let kept = c.loop-classes.invariant in
    let t : get_or c.loop-classes.classes (get_or c.loop-classes.classes c.loop-classes.l 0) 0
    ≤ get_or c.loop-classes.classes c.loop-classes.l 0
    = two-down c.loop-classes.classes kept.forest c.loop-classes.l kept.label in
    let d : get_or c.loop-classes.classes c.loop-classes.l 0 ≤ c.loop-classes.l
    = kept.forest.down c.loop-classes.l in
    let b : c.loop-classes.l < length c.loop-classes.classes = kept.label in
    record {
      label = let s : length (set c.loop-classes.classes c.loop-classes.l (get_or c.loop-classes.classes
          (get_or c.loop-classes.classes c.loop-classes.l 0) 0)) ≡ length c.loop-classes.classes
          = length-set c.loop-classes.classes c.loop-classes.l _ in omega (arith, t, d, b, s);
      forest = halved-forest c.loop-classes.classes kept.forest c.loop-classes.l kept.label;
      kept = λ l. halved-same c.loop-classes.classes kept.forest c.loop-classes.l kept.label l ∙ kept.kept l;
      same = sym (kept.kept
          (get_or c.loop-classes.classes (get_or c.loop-classes.classes c.loop-classes.l 0) 0))
          ∙ halved-root c.loop-classes.classes kept.forest c.loop-classes.l kept.label
          ∙ kept.kept c.loop-classes.l ∙ kept.same;
    }

pub returns-clause-root : goal.returns-clause-root
returns-clause-root c = sym (root-itself c.loop-classes.classes c.loop-classes.l c.loop-classes-test.false)
    ∙ c.loop-classes.invariant.kept c.loop-classes.l ∙ c.loop-classes.invariant.same
