use Rattle.std.proofs.Common.{ℕ, ◌+◌, arith, subst, sym, set}
use Rattle.components.specs.Links.{Adds}
use Rattle.components.specs.Stored.{class_in}
use Rattle.components.proofs.Storing.{adds_another, adds_old}
use Rattle.components.proofs.meeting.add.Goals as goal

pub returns-then-label-ne0-clause-adds : goal.returns-then-label-ne0-clause-adds
returns-then-label-ne0-clause-adds c = subst (λ (place : ℕ). Adds c.args.shape.eight c.args.c
    (class_in c.args.shape c.args.labels.now c.args.classes.now) (class_in c.args.shape
    (set c.args.labels.now place c.gather-label.result) c.gather-label.new.classes))
    (sym c.number_of-place.ensures)
    (adds_old c.args.shape c.args.used c.args.labels.now c.args.classes.now c.gather-label.new.classes
    c.requires.stored c.gather-label.ensures.fit (omega arith) c.args.c c.requires.column c.requires.row
    c.gather-label.result c.gather-label.ensures.gathered c.if-label-ne0.true
    (c.gather-label.ensures.low c.args.used c.requires.stored.below))

pub returns-clause-adds : goal.returns-clause-adds
returns-clause-adds c = subst (λ (place : ℕ). Adds c.args.shape.eight c.args.c
    (class_in c.args.shape c.args.labels.now c.args.classes.now) (class_in c.args.shape
    (set c.args.labels.now place (c.args.used + 1))
    (set c.gather-label.new.classes (c.args.used + 1) (c.args.used + 1))))
    (sym c.number_of-place.ensures)
    (adds_another c.args.shape c.args.used c.args.labels.now c.args.classes.now c.gather-label.new.classes
    c.requires.stored c.gather-label.ensures.fit (omega arith) c.args.c c.requires.column c.requires.row
    c.gather-label.result c.gather-label.ensures.gathered c.if-label-ne0.false c.requires.room)
