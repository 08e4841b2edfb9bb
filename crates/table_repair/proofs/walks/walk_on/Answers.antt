-- The entry behind is refreshed, and the walk goes on or ends.
use Rattle.std.proofs.Common.{sym, ◌∙◌}
use Rattle.table_repair.proofs.Lines.{behind_on-is}
use Rattle.table_repair.proofs.Mends.{on_inside, nothing_mended}
use Rattle.table_repair.proofs.Walking.{rests_right, nothing_set}
use Rattle.table_repair.proofs.Walking.{follows_end, follows_stay, mends_one, follows_on, onward_is}
use Rattle.table_repair.proofs.walks.walk_on.Goals as goal

pub refresh-requires-clause-rests : goal.refresh-requires-clause-rests
refresh-requires-clause-rests g c =
    let l = behind_on-is c.args.grid.now c.args.d c.in-Some.before c.args.walk.at
    (sym c.cell_before.ensures ∙ c.in-Some.is) in
    rests_right c.args.grid.now c.args.tables.now c.args.d c.in-Some.before c.args.walk.at l.0
    c.requires.inside c.requires.right c.requires.ready.beside

pub refresh-requires-clause-sized : goal.refresh-requires-clause-sized
refresh-requires-clause-sized g c = c.requires.ready.sized

pub refresh-requires-clause-inside : goal.refresh-requires-clause-inside
refresh-requires-clause-inside g c =
    let l = behind_on-is c.args.grid.now c.args.d c.in-Some.before c.args.walk.at
    (sym c.cell_before.ensures ∙ c.in-Some.is) in
    on_inside c.args.tables.now c.args.grid.now c.requires.ready.sized c.in-Some.before l.1

pub returns-then-refresh-clause-mends : goal.returns-then-refresh-clause-mends
returns-then-refresh-clause-mends g c =
    mends_one c.args.walk.at c.requires.ready c.in-Some.before (sym c.cell_before.ensures ∙ c.in-Some.is)
    c.refresh.ensures.is (c.refresh.ensures.changed c.if-refresh.true)

pub returns-then-refresh-clause-follows : goal.returns-then-refresh-clause-follows
returns-then-refresh-clause-follows g c =
    follows_on c.args.walk.at c.requires.ready c.in-Some.before (sym c.cell_before.ensures ∙ c.in-Some.is)
    c.refresh.ensures.is

pub returns-then-refresh-clause-onward : goal.returns-then-refresh-clause-onward
returns-then-refresh-clause-onward g c =
    onward_is c.args.walk.at c.requires.ready c.in-Some.before (sym c.cell_before.ensures ∙ c.in-Some.is)
    c.refresh.ensures.is

pub returns-else-refresh-clause-follows : goal.returns-else-refresh-clause-follows
returns-else-refresh-clause-follows g c =
    follows_stay c.args.walk.at c.requires.ready c.in-Some.before (sym c.cell_before.ensures ∙ c.in-Some.is)
    c.refresh.ensures.is (c.refresh.ensures.stayed c.if-refresh.false)

pub returns-in_default-clause-follows : goal.returns-in_default-clause-follows
returns-in_default-clause-follows g c =
    follows_end c.args.walk.at c.requires.ready (sym c.cell_before.ensures ∙ c.in_default.is)

pub returns-else-refresh-clause-mends : goal.returns-else-refresh-clause-mends
returns-else-refresh-clause-mends g c =
    let l = behind_on-is c.args.grid.now c.args.d c.in-Some.before c.args.walk.at
    (sym c.cell_before.ensures ∙ c.in-Some.is) in
    let same = nothing_set c.args.grid.now c.args.tables.now c.refresh.new.self c.in-Some.before c.args.d
    c.requires.ready l.1 c.refresh.ensures.is (c.refresh.ensures.stayed c.if-refresh.false) in
    rw same (nothing_mended c.args.grid.now c.args.d _ c.args.tables.now)

pub returns-in_default-clause-mends : goal.returns-in_default-clause-mends
returns-in_default-clause-mends g c = nothing_mended c.args.grid.now c.args.d _ c.args.tables.now

pub returns-else-refresh-clause-onward : goal.returns-else-refresh-clause-onward
returns-else-refresh-clause-onward g c = λ next e. absurd (cc)

pub returns-in_default-clause-onward : goal.returns-in_default-clause-onward
returns-in_default-clause-onward g c = λ next e. absurd (cc)
