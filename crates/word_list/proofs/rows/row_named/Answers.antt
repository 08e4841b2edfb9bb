use Rattle.std.proofs.Common.{List, ap, ◌∙◌}
use Rattle.word_list.specs.Request.{Named, row_in}
use Rattle.word_list.proofs.Table.{few_taken}
use Rattle.word_list.proofs.rows.row_named.Goals as goal

pub returns-clause-few : goal.returns-clause-few
returns-clause-few c = few_taken c.args.name.now c.row_among.result
    (c.row_among.ensures ∙ ap (λ (some : List Named). row_in some c.args.name.now) c.all_rows.ensures)
