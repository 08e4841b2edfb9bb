use Rattle.std.proofs.Common.{sym, ◌∙◌}
use Rattle.components.proofs.Walking.{joined_ring}
use Rattle.components.proofs.walls.stays_joined.Goals as goal

pub returns-then-is_whole : goal.returns-then-is_whole
returns-then-is_whole c = λ h. joined_ring c.args.shape c.args.labels.now c.requires.sides c.args.c
    c.ring_of-ring.result c.ring_of-ring.ensures (sym c.is_whole.ensures ∙ c.if-is_whole.true)
