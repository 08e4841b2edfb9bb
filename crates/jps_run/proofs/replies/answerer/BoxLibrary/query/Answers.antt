use Rattle.std.proofs.Common.{refl}
use Rattle.grid_moves.specs.Layers.{query_grid}
use Rattle.word_list.specs.declared.request.SmallEngine.TheVariants.{Boxes}
use Rattle.jps_run.specs.Who.{by_small}
use Rattle.jps_run.proofs.Answerers.{one-between}
use Rattle.jps_run.proofs.Replying.{result-on-map, unsearched_is}
use Rattle.jps_run.proofs.replies.answerer.BoxLibrary.query.Goals as goal

pub search-requires : goal.search-requires
search-requires c = record {
  land = c.requires.ready.1;
  water = c.requires.ready.2;
  one = one-between c.args.self.now.layers _ _ c.in-Ok.both.from c.in-Ok.both.to c.in-Ok.ensures.from
      c.in-Ok.ensures.to c.in-Ok.ensures.one;
}

pub returns-in-Ok : goal.returns-in-Ok
returns-in-Ok c = record {
  reply = result-on-map c.search.result c.args.self.now.layers (by_small Boxes)
      (query_grid c.args.self.now.layers c.in-Ok.both.from) _ _ c.in-Ok.both c.in-Ok.ensures refl
      c.search.ensures.found;
}

pub returns-in-Err : goal.returns-in-Err
returns-in-Err c = record {
  reply = rw c.unsearched.ensures (unsearched_is
      (record { layers = c.args.self.now.layers; by = by_small Boxes }) _ _ c.in-Err.why c.in-Err.ensures);
}
