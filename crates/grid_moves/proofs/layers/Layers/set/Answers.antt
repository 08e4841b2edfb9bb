use Rattle.std.proofs.Common.{ap, ◌∙◌, subst, sym}
use Rattle.grid_moves.specs.declared.Ground.TheVariants.{Land, Water}
use Rattle.grid_moves.specs.Layers.{AreLayers, Layers, is_on_map, layers_with}
use Rattle.grid_moves.proofs.Layering.{are_layers-with, edited_by, is_inside-water, same_layers}
use Rattle.grid_moves.proofs.layers.Layers.set.Goals as goal

pub set-requires-2 : goal.set-requires-2
set-requires-2 c = is_inside-water _ c.self.invariant c.args.c
    ∙ ap (λ (ls : Layers). is_on_map ls c.args.c) c.self.view_is ∙ c.requires

pub returns : goal.returns
returns c =
    same_layers _ _
    (edited_by _ c.args.c Land c.args.to c.set.ensures.edited c.eq.ensures)
    (edited_by _ c.args.c Water c.args.to c.set-2.ensures.edited c.eq-2.ensures)
    ∙ ap (λ (ls : Layers). layers_with ls c.args.c c.args.to) c.self.view_is

pub invariant_of-self : goal.invariant_of-self
invariant_of-self c =
    subst (λ (ls : Layers). AreLayers ls) (sym (returns c))
    (are_layers-with c.args.self.now c.args.c c.args.to
    (subst (λ (ls : Layers). AreLayers ls) c.self.view_is c.self.invariant) c.requires)
