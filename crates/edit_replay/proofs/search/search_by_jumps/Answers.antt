use Rattle.edit_replay.proofs.Answering.{found_right}
use Rattle.edit_replay.proofs.Counts.{all_taken, found_by_jumps, has_places, rose_away}
use Rattle.edit_replay.proofs.search.search_by_jumps.Goals as goal

pub search_in-requires-clause-some : goal.search_in-requires-clause-some
search_in-requires-clause-some g c = (
  c.args._grid.now,
  record { stands = c.requires.stands; from = c.requires.from; to = c.requires.to },
)

pub search_in-requires-clause-places : goal.search_in-requires-clause-places
search_in-requires-clause-places g c = λ h served.
    has_places c.args._grid.now h c.width.result c.height.result c.args.space.now
    (c.width.ensures.is c.args._grid.now c.requires.stands) (c.width.ensures.is h served.stands)
    (c.height.ensures.is c.args._grid.now c.requires.stands) (c.height.ensures.is h served.stands)
    c.requires.places

pub returns-clause-right : goal.returns-clause-right
returns-clause-right g c = rw c.found.ensures (found_right c.args._grid.now c.args.from c.args.to _ _
    c.requires.from c.requires.to (c.in_ok-walk.ensures.least c.args._grid.now
    (record { stands = c.requires.stands; from = c.requires.from; to = c.requires.to })))

pub returns-clause-run : goal.returns-clause-run
returns-clause-run g c = rw c.found.ensures
    (found_by_jumps c.args.space.now.layout c.args._grid.now c.args.from c.args.to _ _
    (c.in_ok-walk.ensures.run c.args._grid.now
    (record { stands = c.requires.stands; from = c.requires.from; to = c.requires.to })))

pub returns-clause-most : goal.returns-clause-most
returns-clause-most g c = rw (c.found.ensures, all_taken c.in_ok-walk.field-0.walk c.in_ok-walk.field-0.taken)
    c.in_ok-walk.ensures.most

pub returns-clause-fewest : goal.returns-clause-fewest
returns-clause-fewest g c = rw c.found.ensures
    (rose_away c.args.space.now.layout c.args._grid.now c.args.from c.args.to _ _
    (g.J.JumpSource.fewest c.args.j.now).allowed c.args.steps.now c.search_in.new.steps
    (c.in_ok-walk.ensures.run c.args._grid.now
    (record { stands = c.requires.stands; from = c.requires.from; to = c.requires.to }))
    c.in_ok-walk.ensures.fewest)
