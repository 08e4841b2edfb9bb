use Rattle.std.proofs.Common.{subst}
use Rattle.grid_moves.specs.Grid.{GridData}
use Rattle.joined_cells.specs.Joined.{TellsJoined}
use Rattle.joined_cells.proofs.Layering.{tells_both}
use Rattle.joined_cells.proofs.both.JoinedLayers.of.Goals as goal

pub returns : goal.returns
returns c = record {
  tells = tells_both c.args.layers.now c.both.ensures.layers
      (record { land = c.in_ok-land.land; water = c.in_ok-water.water })
      (subst (λ (g : GridData). TellsJoined g c.in_ok-land.land) c.both.ensures.land c.in_ok-land.ensures)
      (subst (λ (g : GridData). TellsJoined g c.in_ok-water.water) c.both.ensures.water
      c.in_ok-water.ensures);
}
