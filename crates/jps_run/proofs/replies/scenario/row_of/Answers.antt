use Rattle.std.proofs.Common.{◌≡◌, ◌∙◌, ap, true}
use Rattle.edit_replay.specs.declared.reply.Reply.{Reply}
use Rattle.jps_run.specs.Answerers.{who_of}
use Rattle.jps_run.specs.Rows.{has_sides, row_of}
use Rattle.jps_run.proofs.replies.scenario.row_of.Goals as goal

pub returns-clause-row : goal.returns-clause-row
returns-clause-row g c =
    let sides : has_sides (who_of c.args.answerer.now).layers c.args.entry
    ≡ true = cc (c.if-not-has_sides.ensures) in
    rw sides (c.row_of_reply.ensures
    ∙ ap (λ (r : Reply). row_of c.args.entry.length r) c.in_ok-reply.ensures.reply)
