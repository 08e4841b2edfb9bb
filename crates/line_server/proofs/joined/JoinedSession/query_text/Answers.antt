use Rattle.line_server.specs.Answers.{cell_at}
use Rattle.line_server.proofs.Parting.{reply-unfolds}
use Rattle.line_server.proofs.joined.JoinedSession.query_text.Goals as goal

pub put_reply-requires-clause-unfolds : goal.put_reply-requires-clause-unfolds
put_reply-requires-clause-unfolds g c =
    reply-unfolds c.self.inside.session.engine c.self.inside.session.layers (cell_at c.args.sx c.args.sy)
    (cell_at c.args.gx c.args.gy) c.in_ok-reply.reply c.in_ok-reply.ensures.function
