-- Round by round.
use Rattle.std.proofs.Common.{arith}
use Rattle.std.proofs.lemmas.Bool.Decides.{nat_tests}
use Rattle.std.proofs.lemmas.List.{nil_from_length}
use Rattle.table_repair.proofs.Rounds.{queued_none, rounds_more, room_few, room_left}
use Rattle.table_repair.proofs.walks.lead_out.Goals as goal

pub round-init : goal.round-init
round-init g c = queued_none c.requires.standing

pub lead_all-requires : goal.lead_all-requires
lead_all-requires g c = record { standing = c.round.invariant.abreast.standing }

pub overflow_add-changed : goal.overflow_add-changed
overflow_add-changed g c =
    let few = c.round.invariant.few in
    let room = room_few c.args.grid.now c.args.d c.args.walks.now.items c.requires.standing.ready.grid
    c.requires.standing.inside in
    let short = c.requires.short in
    let less = c.lead_all.ensures.room in
    let len = c.len.ensures.value in
    omega arith

pub round-smaller : goal.round-smaller
round-smaller g c = grind (arith, room_left)

pub round-preserved : goal.round-preserved
round-preserved g c = rw c.len.ensures.value (rounds_more c.round.invariant
    c.lead_all.ensures.abreast c.lead_all.ensures.room c.lead_all.ensures.steps c.lead_all.ensures.later)

pub returns-clause-abreast : goal.returns-clause-abreast
returns-clause-abreast g c = c.round.invariant.abreast

pub returns-clause-none : goal.returns-clause-none
returns-clause-none g c = nil_from_length c.round.walks.items
    (let t = c.round-test.false in let f = c.is_empty.ensures in grind (arith, nat_tests))

pub returns-clause-few : goal.returns-clause-few
returns-clause-few g c =
    let few = c.round.invariant.few in
    let room = room_few c.args.grid.now c.args.d c.args.walks.now.items c.requires.standing.ready.grid
    c.requires.standing.inside in
    omega arith

pub returns-clause-steps : goal.returns-clause-steps
returns-clause-steps g c = let counted = c.round.invariant.counted in omega arith

pub returns-clause-later : goal.returns-clause-later
returns-clause-later g c = c.round.invariant.later
