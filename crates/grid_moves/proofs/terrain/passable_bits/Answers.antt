use Rattle.grid_moves.proofs.Bits.{set_all, set_and, set_or}
use Rattle.grid_moves.proofs.terrain.passable_bits.Goals as goal

pub returns-in-Never : goal.returns-in-Never
returns-in-Never c = rw c.in-Never.is (λ j h. set_and c.args.these c.args.those j)

pub returns-in-One : goal.returns-in-One
returns-in-One c = rw c.in-One.is (λ j h. set_or c.args.these c.args.those j)

pub returns-in-Both : goal.returns-in-Both
returns-in-Both c = rw c.in-Both.is (λ j h. set_all j h)
