use Rattle.jump_block.specs.Trail.{trail_on}
use Rattle.jump_block.proofs.scan.scan.Goals as goal

pub returns-in-Halted-clause-finds : goal.returns-in-Halted-clause-finds
returns-in-Halted-clause-finds g c = λ free start.
    c.in-Halted.ensures (trail_on free c.args.way c.args.line c.args.place)
    (c.read-block.ensures.shown start.count start.positions free start.shows c.args.way c.args.place)

pub scan_on_by-requires-clause-passed : goal.scan_on_by-requires-clause-passed
scan_on_by-requires-clause-passed g c = λ free start.
    rw c.in-Forward.is at (c.in-Passed.ensures
    (trail_on free c.args.way c.args.line c.args.place)
    (c.read-block.ensures.shown start.count start.positions free start.shows c.args.way c.args.place))

pub scan_on_by-requires-in-Back-clause-passed : goal.scan_on_by-requires-in-Back-clause-passed
scan_on_by-requires-in-Back-clause-passed g c = λ free start.
    rw c.in-Back.is at (c.in-Passed.ensures
    (trail_on free c.args.way c.args.line c.args.place)
    (c.read-block.ensures.shown start.count start.positions free start.shows c.args.way c.args.place))

pub returns-in-Forward-clause-finds : goal.returns-in-Forward-clause-finds
returns-in-Forward-clause-finds g c = λ free start.
    rw c.in-Forward.is (c.scan_on_by.ensures.finds free start)

pub returns-in-Back-clause-finds : goal.returns-in-Back-clause-finds
returns-in-Back-clause-finds g c = λ free start.
    rw c.in-Back.is (c.scan_on_by-in-Back.ensures.finds free start)
