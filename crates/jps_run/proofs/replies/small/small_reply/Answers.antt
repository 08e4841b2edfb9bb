use Rattle.jps_run.specs.Who.{by_small}
use Rattle.jps_run.proofs.Replying.{goal-free, result-on-map, unsearched_is}
use Rattle.jps_run.proofs.replies.small.small_reply.Goals as goal

pub reply_alone-requires-clause-to : goal.reply_alone-requires-clause-to
reply_alone-requires-clause-to c =
    goal-free c.args.layers.now c.query_grid.result.now _ _ c.in-Ok.both.from c.in-Ok.both.to
    c.in-Ok.ensures.from c.in-Ok.ensures.to c.query_grid.ensures c.in-Ok.ensures.one

pub returns-in-Ok : goal.returns-in-Ok
returns-in-Ok c =
    result-on-map c.reply_alone.result c.args.layers.now (by_small c.args.engine) c.query_grid.result.now _ _
    c.in-Ok.both c.in-Ok.ensures c.query_grid.ensures c.reply_alone.ensures.found

pub returns-in-Err : goal.returns-in-Err
returns-in-Err c = rw c.unsearched.ensures
    (unsearched_is (record { layers = c.args.layers.now; by = by_small c.args.engine }) _ _ c.in-Err.why
    c.in-Err.ensures)
