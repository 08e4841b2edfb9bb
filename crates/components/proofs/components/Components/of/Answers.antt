use Rattle.std.proofs.Common.{arith, subst, sym, List, ℕ, true}
use Rattle.std.specs.Vec.{with_items}
use Rattle.std.proofs.lemmas.List.{with_items_is}
use Rattle.components.specs.declared.shape.Shape.{Shape}
use Rattle.components.specs.Kept.{Tells}
use Rattle.components.proofs.Editing.{seen, seen_tells}
use Rattle.components.proofs.components.Components.of.Goals as goal

pub returns-clause-tells : goal.returns-clause-tells
returns-clause-tells g c =
    let grid = g.T.Terrain.grid c.args.t.now in
    let shape : Shape = record
    { width = c.width.result; height = c.height.result; eight = c.may_slip.result } in
    subst (λ (ls : List ℕ). Tells grid (seen shape c.corner-corner.result ls (with_items
    (with_items c.in_ok-classes.classes c.part_all.new.classes) c.relabel-used.new.classes).items true))
    (sym (with_items_is c.in_ok-labels.labels c.relabel-used.new.labels (omega arith)))
    (subst (λ (cs : List ℕ). Tells grid (seen shape c.corner-corner.result c.relabel-used.new.labels cs true))
    (sym (with_items_is (with_items c.in_ok-classes.classes c.part_all.new.classes) c.relabel-used.new.classes
    (omega arith)))
    (seen_tells grid shape c.corner-corner.result c.relabel-used.new.labels c.relabel-used.new.classes true
    c.relabel-used.ensures.grid c.width.ensures.is c.height.ensures.is
    c.corner-corner.ensures c.may_slip.ensures
    (λ f. c.relabel-used.ensures.told)))
