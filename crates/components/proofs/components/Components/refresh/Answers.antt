use Rattle.std.proofs.Common.{◌≡◌, arith, subst, sym, List, ℕ, true}
use Rattle.std.specs.Vec.{with_items}
use Rattle.std.proofs.lemmas.List.{with_items_is}
use Rattle.components.specs.Kept.{KeptLabels, Tells}
use Rattle.components.proofs.Editing.{seen, seen_tells}
use Rattle.components.proofs.components.Components.refresh.Goals as goal

pub returns-clause-tells : goal.returns-clause-tells
returns-clause-tells g c =
    let grid = g.T.Terrain.grid c.args.t.now in
    let in_self = c.self.inside in
    subst (λ (ls : List ℕ). Tells grid (seen in_self.shape in_self.corner ls
    (with_items in_self.classes c.relabel-self-inside.new.classes).items true))
    (sym (with_items_is in_self.labels c.relabel-self-inside.new.labels (omega arith)))
    (subst (λ (cs : List ℕ). Tells grid
    (seen in_self.shape in_self.corner c.relabel-self-inside.new.labels cs true))
    (sym (with_items_is in_self.classes c.relabel-self-inside.new.classes (omega arith)))
    (seen_tells grid in_self.shape in_self.corner c.relabel-self-inside.new.labels
    c.relabel-self-inside.new.classes true c.relabel-self-inside.ensures.grid
    (subst (λ (p : KeptLabels). p.labels.width ≡ grid.width) (sym c.self.view_is) c.requires.width)
    (subst (λ (p : KeptLabels). p.labels.height ≡ grid.height) (sym c.self.view_is) c.requires.height)
    (subst (λ (p : KeptLabels). p.corner ≡ grid.corner) (sym c.self.view_is) c.requires.corner)
    c.self.invariant.eight (λ f. c.relabel-self-inside.ensures.told)))
