use Rattle.grid_moves.specs.declared.Ground.TheVariants.{Land}
use Rattle.edit_replay.specs.Edited.{edit_at}
use Rattle.embedding.proofs.Once.{right_once}
use Rattle.embedding.proofs.reply_with_door.Goals as goal

pub returns : goal.returns
returns g c = record {
  right = right_once c.query.result c.args.session.now.layers c.edit.new.self.layers (edit_at 1 1 Land)
      (record { x = 0; y = 0 }) (record { x = 2; y = 0 }) c.edit.ensures.edited c.query.ensures.right;
}
