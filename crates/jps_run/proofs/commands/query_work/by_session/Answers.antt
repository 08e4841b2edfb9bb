use Rattle.std.proofs.Common.{subst, List}
use Rattle.script_text.specs.declared.command.ScriptCommand.{ScriptCommand}
use Rattle.jps_run.specs.Answers.{solve_output}
use Rattle.jps_run.specs.Parts.{Prints}
use Rattle.jps_run.specs.Session.{session_replies}
use Rattle.jps_run.specs.Rising.{RoseForCommands}
use Rattle.jps_run.proofs.Querying.{one-line, one-rose}
use Rattle.jps_run.proofs.commands.query_work.by_session.Goals as goal

pub returns : goal.returns
returns c =
    let d = c.args.session in
    let e = c.args.ends in
    record {
      can = tt;
      right = λ lines status w. one-line d c.args.show e.sx e.sy e.gx e.gy lines status
          (subst (λ (all : List ScriptCommand). Prints
          (solve_output (session_replies d) c.args.show d.layers all) lines
          status) c.in_ok-commands.ensures w);
      counted = λ old new rose. one-rose d c.args.show e.sx e.sy e.gx e.gy old new
          (subst (λ (all : List ScriptCommand). RoseForCommands d all old new) c.in_ok-commands.ensures rose);
    }
