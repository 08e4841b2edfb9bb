use Rattle.line_server.specs.declared.server.LineServer.{LineServer}
use Rattle.line_server.proofs.Serving.{served-none}
use Rattle.line_server.proofs.server.LineServer.new.Goals as goal

pub returns-clause-begun : goal.returns-clause-begun
returns-clause-begun c =
    let s : LineServer = record {
      session = c.in_ok-session.session;
      show = c.args.show;
      feed = c.new-2.result;
    } in λ out. served-none s out c.new-2.ensures
