use Rattle.std.proofs.Common.{sym, subst}
use Rattle.grid_moves.specs.Layers.{AreLayers, Layers, layers_of}
use Rattle.grid_moves.proofs.Layering.{are_layers-of, same_layers}
use Rattle.grid_moves.proofs.layers.Layers.of_cells.Goals as goal

pub returns-clause-layers : goal.returns-clause-layers
returns-clause-layers c =
    let made : Layers = record { land = c.in_ok-land.land; water = c.in_ok-water.water } in
    let asked = layers_of c.args.corner c.args.width c.args.height c.args.cells.now in
    subst (λ (ls : Layers). AreLayers ls)
    (sym (same_layers made asked c.in_ok-land.ensures c.in_ok-water.ensures))
    (are_layers-of c.args.corner c.args.width c.args.height c.args.cells.now c.requires)

pub invariant_of-result : goal.invariant_of-result
invariant_of-result c = returns-clause-layers c
