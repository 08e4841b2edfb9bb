use Rattle.std.proofs.Common.{◌∙◌}
use Rattle.pruning.specs.Eight.{ring_of}
use Rattle.pruning.proofs.Ringing.{allowed_of_ring}
use Rattle.jump_block.proofs.source.BlockJumpsJumpSource.allowed_word.Goals as goal

pub returns-clause-rule : goal.returns-clause-rule
returns-clause-rule g c = λ grid are free came.
    c.allowed.ensures
    ∙ allowed_of_ring grid c.args.at free (ring_of c.eight-eight.result)
    (c.eight-eight.ensures.around grid (c.lines.ensures grid are) free)
    _ (c.allowed_table.ensures ∙ are.rule) c.args.by
