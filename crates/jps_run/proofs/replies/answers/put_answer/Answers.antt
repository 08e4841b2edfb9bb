use Rattle.jps_run.specs.Replies.{by_session}
use Rattle.jps_run.proofs.Solving.{query-goes-on}
use Rattle.jps_run.proofs.Existing.{reply_unfolds}
use Rattle.jps_run.proofs.replies.answers.put_answer.Goals as goal

pub put_reply-requires-clause-unfolds : goal.put_reply-requires-clause-unfolds
put_reply-requires-clause-unfolds g c =
    let q = c.in-Query in
    reply_unfolds (by_session c.args.session.now.engine) c.args.session.now.layers
    (record { x = q.sx; y = q.sy })
    (record { x = q.gx; y = q.gy }) c.in_ok-reply-in-Query.reply c.in_ok-reply-in-Query.ensures.function

pub returns-in_ok-reply-in-Query-clause-edited : goal.returns-in_ok-reply-in-Query-clause-edited
returns-in_ok-reply-in-Query-clause-edited g c =
    query-goes-on c.put_reply.result c.args.session.now c.query.new.self c.args.command c.in-Query.sx
    c.in-Query.sy c.in-Query.gx c.in-Query.gy c.in_ok-reply-in-Query.ensures.unchanged c.in-Query.is
