use Rattle.std.proofs.Common.{le_refl, refl}
use Rattle.grid_moves.specs.Layers.{query_grid}
use Rattle.word_list.specs.declared.request.SmallEngine.TheVariants.{Moves}
use Rattle.jps_run.specs.Who.{by_small}
use Rattle.jps_run.proofs.Answerers.{one-between}
use Rattle.jps_run.proofs.Replying.{result-on-map, unsearched_is}
use Rattle.jps_run.proofs.replies.answerer.MoveLibrary.query.Goals as goal

pub follow-requires : goal.follow-requires
follow-requires g c = record {
  small = c.requires.ready.0;
  land = c.requires.ready.1;
  water = c.requires.ready.2;
  one = one-between c.args.self.now.layers _ _ c.in-Ok.both.from c.in-Ok.both.to c.in-Ok.ensures.from
      c.in-Ok.ensures.to c.in-Ok.ensures.one;
}

pub returns-in-Ok : goal.returns-in-Ok
returns-in-Ok g c = record {
  reply = result-on-map c.follow.result c.args.self.now.layers (by_small Moves)
      (query_grid c.args.self.now.layers c.in-Ok.both.from) _ _ c.in-Ok.both c.in-Ok.ensures refl
      c.follow.ensures.found;
  later = c.follow.ensures.later;
}

pub returns-in-Err : goal.returns-in-Err
returns-in-Err g c = record {
  reply = rw c.unsearched.ensures (unsearched_is
      (record { layers = c.args.self.now.layers; by = by_small Moves }) _ _ c.in-Err.why c.in-Err.ensures);
  later = le_refl c.args.steps.now;
}
