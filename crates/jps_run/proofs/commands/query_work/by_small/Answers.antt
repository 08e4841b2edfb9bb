use Rattle.std.proofs.Common.{ap, refl, ◌∙◌}
use Rattle.grid_moves.specs.Grid.{GridData}
use Rattle.jps_run.specs.Who.{by_small}
use Rattle.jps_run.proofs.Querying.{replied-work}
use Rattle.jps_run.proofs.Existing.{reply_unfolds}
use Rattle.jps_run.proofs.commands.query_work.by_small.Goals as goal

pub line_of-requires-clause-unfolds : goal.line_of-requires-clause-unfolds
line_of-requires-clause-unfolds c =
    reply_unfolds (by_small c.args.engine) c.args.layers.now _ _ c.in_ok-reply.reply c.in_ok-reply.ensures

pub returns : goal.returns
returns c =
    replied-work (record { layers = c.args.layers.now; by = by_small c.args.engine }) c.args.show _ _
    c.in_ok-reply.reply c.width.result c.in_ok-text.text c.in_ok-reply.ensures refl refl
    (c.width.ensures.is ∙ ap (λ (g : GridData). g.width) c.land.ensures)
    c.in_ok-text.ensures
