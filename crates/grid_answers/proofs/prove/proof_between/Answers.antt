use Rattle.std.proofs.Common.{◌∙◌, ap}
use Rattle.grid_moves.specs.Grid.{GridData}
use Rattle.potential_make.specs.Made.{made_certificate}
use Rattle.grid_answers.proofs.prove.proof_between.Goals as goal

pub returns-clause-text : goal.returns-clause-text
returns-clause-text c =
    c.in_ok-text.ensures
    ∙ ap (λ (g : GridData). made_certificate g c.args.from c.args.to) c.query_grid.ensures
