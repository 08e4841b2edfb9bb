use Rattle.std.proofs.Common.{◌≤◌, ◌∙◌, sym, get_or, arith}
use Rattle.components.proofs.Roots.{root-itself, root-step}
use Rattle.components.proofs.classes.root.Goals as goal

pub loop-l-preserved : goal.loop-l-preserved
loop-l-preserved c =
    let d : get_or c.args.classes.now c.loop-l.l 0 ≤ c.loop-l.l = c.requires.forest.down c.loop-l.l in
    let b = c.loop-l.invariant.label in
    record {
      label = omega arith;
      same = root-step c.args.classes.now c.requires.forest.down c.loop-l.l ∙ c.loop-l.invariant.same;
    }

pub loop-l-smaller : goal.loop-l-smaller
loop-l-smaller c =
    let d : get_or c.args.classes.now c.loop-l.l 0 ≤ c.loop-l.l = c.requires.forest.down c.loop-l.l in
    omega arith

pub returns : goal.returns
returns c = sym (root-itself c.args.classes.now c.loop-l.l c.loop-l-test.false) ∙ c.loop-l.invariant.same
