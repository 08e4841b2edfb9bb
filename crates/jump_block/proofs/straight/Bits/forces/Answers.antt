use Rattle.std.proofs.Common.{ap, ◌∙◌}
use Rattle.grid_moves.specs.declared.ring.Ring.{Ring}
use Rattle.pruning.specs.Ring.{forced_on}
use Rattle.pruning.specs.Eight.{ring_of}
use Rattle.pruning.proofs.Ringing.{forced_of_ring}
use Rattle.jump_block.proofs.straight.Bits.forces.Goals as goal

pub returns-then-may_cut-clause-forces : goal.returns-then-may_cut-clause-forces
returns-then-may_cut-clause-forces g c = λ grid are free.
    c.forced_on.ensures
    ∙ ap (λ (r : Ring). forced_on c.args.self.now.corner r c.args.d) c.ring_of.ensures
    ∙ forced_of_ring grid c.args.at free (ring_of c.eight.result) (c.eight.ensures.around grid are free)
    c.args.self.now.corner are.rule c.args.d
