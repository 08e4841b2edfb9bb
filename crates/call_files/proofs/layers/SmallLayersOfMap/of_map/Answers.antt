use Rattle.map_text.specs.Faults.{plain}
use Rattle.call_files.proofs.Readings.{small-layers}
use Rattle.call_files.proofs.layers.SmallLayersOfMap.of_map.Goals as goal

pub returns : goal.returns
returns c = record {
  layers = c.in_ok-layers.ensures;
  few = small-layers c.args.settings (plain c.args.map) c.in_ok-layers.layers c.in_ok-layers.ensures
      c.requires;
}
