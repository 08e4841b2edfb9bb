use Rattle.outcome_laws.proofs.Kept.{are_layers-map, are_layers-text, are_layers-seed, are_layers-edited}
use Rattle.outcome_laws.proofs.of_replies.layers_stay.Goals as goal

pub returns : goal.returns
returns c = record {
  of_map = are_layers-map;
  of_text = are_layers-text;
  of_seed = are_layers-seed;
  after_edits = are_layers-edited;
}
