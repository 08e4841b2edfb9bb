use Rattle.std.proofs.Common.{arith}
use Rattle.components.proofs.Roots.{p_below, q_below, united, united-turned}
use Rattle.components.proofs.classes.unite.Goals as goal

pub bounds-classes-b : goal.bounds-classes-b
bounds-classes-b c = q_below c.args.classes.now c.find-a.new.classes c.find-b.new.classes
    c.find-b.ensures.forest
    c.find-a.ensures.same c.find-b.ensures.same c.args.a c.args.b _ _ (omega arith) (omega arith)
    c.requires.some_a c.requires.some_b c.find-a.ensures.root c.find-b.ensures.root

pub bounds-classes-a : goal.bounds-classes-a
bounds-classes-a c = p_below c.args.classes.now c.find-a.new.classes c.find-b.new.classes
    c.find-b.ensures.forest
    c.find-a.ensures.same c.find-b.ensures.same c.args.a c.args.b _ _ (omega arith) (omega arith)
    c.requires.some_a c.requires.some_b c.find-a.ensures.root c.find-b.ensures.root

pub returns-then-a-b : goal.returns-then-a-b
returns-then-a-b c =
    let u = united c.args.classes.now c.find-a.new.classes c.find-b.new.classes c.find-b.ensures.forest
    c.find-a.ensures.same c.find-b.ensures.same c.args.a c.args.b _ _ (omega arith) (omega arith)
    c.requires.some_a c.requires.some_b c.find-a.ensures.root c.find-b.ensures.root (omega arith) in
    record { forest = u.falls; merged = u.merged }

pub returns-else-a-b : goal.returns-else-a-b
returns-else-a-b c =
    let u = united-turned c.args.classes.now c.find-a.new.classes c.find-b.new.classes c.find-b.ensures.forest
    c.find-a.ensures.same c.find-b.ensures.same c.args.a c.args.b _ _ (omega arith) (omega arith)
    c.requires.some_a c.requires.some_b c.find-a.ensures.root c.find-b.ensures.root (omega arith) in
    record { forest = u.falls; merged = u.merged }
