-- The walk goes on beside the others, or ends.
use Rattle.std.proofs.Common.{refl, ◌+◌}
use Rattle.table_repair.proofs.Abreast.{enter_ends, step_on, step_behind}
use Rattle.table_repair.proofs.Rounds.{some_on, none_on}
use Rattle.table_repair.proofs.Totals.{added, none_added}
use Rattle.table_repair.proofs.walks.begin.Goals as goal

pub make_room-requires-clause-standing : goal.make_room-requires-clause-standing
make_room-requires-clause-standing g c =
    (step_on c.args.from c.args.walks.now.items c.requires.standing
    c.walk_on.ensures.mends c.walk_on.ensures.follows c.walk_on.ensures.onward
    (some_on c.args.walks.now.items c.in-Some.is c.push.ensures.items) refl).standing

pub returns-in-Some-clause-abreast : goal.returns-in-Some-clause-abreast
returns-in-Some-clause-abreast g c = rw (added c.args.changed (1 + c.make_room.result)) (enter_ends
    (step_on c.args.from c.args.walks.now.items c.requires.standing
    c.walk_on.ensures.mends c.walk_on.ensures.follows c.walk_on.ensures.onward
    (some_on c.args.walks.now.items c.in-Some.is c.push.ensures.items) (rw c.in-Some.is refl))
    (λ w. refl) c.make_room.ensures.abreast)

pub returns-in-Some-clause-behind : goal.returns-in-Some-clause-behind
returns-in-Some-clause-behind g c = λ w k.
    step_behind c.args.from c.args.walks.now.items c.requires.standing
    c.walk_on.ensures.mends c.walk_on.ensures.follows c.walk_on.ensures.onward
    (some_on c.args.walks.now.items c.in-Some.is c.push.ensures.items) w (c.make_room.ensures.same w k)

pub returns-in-None-clause-abreast : goal.returns-in-None-clause-abreast
returns-in-None-clause-abreast g c = rw (none_added c.args.changed)
    (step_on c.args.from c.args.walks.now.items c.requires.standing
    c.walk_on.ensures.mends c.walk_on.ensures.follows c.walk_on.ensures.onward
    (none_on {xs = c.args.walks.now.items} c.in-None.is refl) (rw c.in-None.is refl))
