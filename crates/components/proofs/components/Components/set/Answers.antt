use Rattle.std.proofs.Common.{◌≡◌, ◌<◌, ap, arith, subst, sym, ◌∙◌, Bool, true, false, List, ℕ, set}
use Rattle.std.specs.Vec.{with_items}
use mathlib.Core.Bool.{beq}
use Rattle.std.specs.Prelude.{nat_eq, not}
use Rattle.std.proofs.lemmas.List.{with_items_is}
use Rattle.grid_moves.specs.Grid.{grid_with}
use Rattle.joined_cells.specs.Joined.{label_of}
use Rattle.components.specs.Kept.{KeptLabels, Tells}
use Rattle.components.specs.Walls.{AreJoined, is_labelled}
use Rattle.components.specs.Links.{Adds}
use Rattle.components.specs.Stored.{class_in, labels_in}
use Rattle.components.proofs.Editing.{differ, edited_blocked, edited_freed, edited_same, edited_stale}
use Rattle.components.proofs.Editing.{same_bools, seen}
use Rattle.components.proofs.components.Components.set.Goals as goal

pub returns-then-not-self : goal.returns-then-not-self
returns-then-not-self c = λ g t.
    let in_self = c.self.inside in
    subst (λ (p : KeptLabels). Tells (grid_with g c.args.c c.args.free) p) c.self.view_is
    (subst (λ (b : Bool). Tells (grid_with g c.args.c c.args.free)
    (seen in_self.shape in_self.corner in_self.labels.items in_self.classes.items b)) (sym c.if-not-self.true)
    (edited_stale in_self.shape in_self.corner in_self.used in_self.labels.items in_self.classes.items
    c.self.invariant c.args.c
    (subst (λ (p : KeptLabels). c.args.c.x < p.labels.width) (sym c.self.view_is) c.requires.column)
    (subst (λ (p : KeptLabels). c.args.c.y < p.labels.height) (sym c.self.view_is) c.requires.row) g
    in_self.fresh (subst (λ (p : KeptLabels). Tells g p) (sym c.self.view_is) t) c.args.free
    in_self.labels.items in_self.classes.items))

pub returns-then-free-label_at : goal.returns-then-free-label_at
returns-then-free-label_at c = λ g t.
    let in_self = c.self.inside in
    subst (λ (p : KeptLabels). Tells (grid_with g c.args.c c.args.free) p) c.self.view_is
    (edited_same in_self.shape in_self.corner in_self.used in_self.labels.items in_self.classes.items
    c.self.invariant c.args.c
    (subst (λ (p : KeptLabels). c.args.c.x < p.labels.width) (sym c.self.view_is) c.requires.column)
    (subst (λ (p : KeptLabels). c.args.c.y < p.labels.height) (sym c.self.view_is) c.requires.row) g
    in_self.fresh (subst (λ (p : KeptLabels). Tells g p) (sym c.self.view_is) t) c.args.free
    (same_bools c.args.free (not (nat_eq c.label_at.result 0)) c.if-free-label_at.true
    ∙ ap (λ (l : ℕ). not (nat_eq l 0)) (c.label_at.ensures
    ∙ ap (λ (ls : List ℕ). label_of (labels_in in_self.shape ls) c.args.c) c.deref.ensures.value))
    c.if-not-self.false)

pub returns-then-not-free : goal.returns-then-not-free
returns-then-not-free c = λ g t.
    let in_self = c.self.inside in
    subst (λ (b : Bool). Tells (grid_with g c.args.c b) (seen in_self.shape in_self.corner
    (set in_self.labels.items c.number_of-place.result 0) in_self.classes.items
    c.stays_joined-self-inside.result)) (sym c.if-not-free.true)
    (subst (λ (place : ℕ). Tells (grid_with g c.args.c false) (seen in_self.shape in_self.corner
    (set in_self.labels.items place 0) in_self.classes.items c.stays_joined-self-inside.result))
    (sym c.number_of-place.ensures)
    (edited_blocked in_self.shape in_self.corner in_self.used in_self.labels.items in_self.classes.items
    c.self.invariant c.args.c
    (subst (λ (p : KeptLabels). c.args.c.x < p.labels.width) (sym c.self.view_is) c.requires.column)
    (subst (λ (p : KeptLabels). c.args.c.y < p.labels.height) (sym c.self.view_is) c.requires.row) g
    in_self.fresh (subst (λ (p : KeptLabels). Tells g p) (sym c.self.view_is) t) c.if-not-self.false
    c.stays_joined-self-inside.result
    (subst (λ (ls : List ℕ). c.stays_joined-self-inside.result ≡ true
    → AreJoined in_self.shape.eight (is_labelled (labels_in in_self.shape ls)) c.args.c)
    (c.deref-then-not-free.ensures.value
    ∙ ap (λ (place : ℕ). set in_self.labels.items place 0) c.number_of-place.ensures)
    c.stays_joined-self-inside.ensures)))

pub returns : goal.returns
returns c = λ g t.
    let in_self = c.self.inside in
    subst (λ (b : Bool). Tells (grid_with g c.args.c b) (seen in_self.shape in_self.corner
    (with_items in_self.labels c.add-self-inside.new.labels).items
    (with_items in_self.classes c.add-self-inside.new.classes).items in_self.fresh)) (sym c.if-not-free.false)
    (subst (λ (ls : List ℕ). Tells (grid_with g c.args.c true) (seen in_self.shape in_self.corner ls
    (with_items in_self.classes c.add-self-inside.new.classes).items in_self.fresh))
    (sym (with_items_is in_self.labels c.add-self-inside.new.labels (omega arith)))
    (subst (λ (cs : List ℕ). Tells (grid_with g c.args.c true) (seen in_self.shape in_self.corner
    c.add-self-inside.new.labels cs in_self.fresh))
    (sym (with_items_is in_self.classes c.add-self-inside.new.classes (omega arith)))
    (edited_freed in_self.shape in_self.corner in_self.used in_self.labels.items in_self.classes.items
    c.self.invariant c.args.c
    (subst (λ (p : KeptLabels). c.args.c.x < p.labels.width) (sym c.self.view_is) c.requires.column)
    (subst (λ (p : KeptLabels). c.args.c.y < p.labels.height) (sym c.self.view_is) c.requires.row) g
    in_self.fresh (subst (λ (p : KeptLabels). Tells g p) (sym c.self.view_is) t) c.if-not-self.false
    (differ c.args.free (label_of (labels_in in_self.shape in_self.labels.items) c.args.c) c.if-not-free.false
    (subst (λ (l : ℕ). beq c.args.free (not (nat_eq l 0)) ≡ false)
    (c.label_at.ensures ∙ ap (λ (ls : List ℕ). label_of (labels_in in_self.shape ls) c.args.c)
    c.deref.ensures.value) c.if-free-label_at.false))
    c.add-self-inside.new.labels c.add-self-inside.new.classes
    (subst (λ (ls : List ℕ). Adds in_self.shape.eight c.args.c
    (class_in in_self.shape ls in_self.classes.items)
    (class_in in_self.shape c.add-self-inside.new.labels c.add-self-inside.new.classes))
    c.as_mut_slice.ensures.value
    (subst (λ (cs : List ℕ). Adds in_self.shape.eight c.args.c
    (class_in in_self.shape c.as_mut_slice.result.now cs)
    (class_in in_self.shape c.add-self-inside.new.labels c.add-self-inside.new.classes))
    c.as_mut_slice-2.ensures.value c.add-self-inside.ensures.adds)))))
