use Rattle.std.proofs.Common.{◌≡◌, refl, ◌∙◌, ◌<◌, sym, ap, subst, length, length-append, List, ℕ, [], ◌∷◌}
use Rattle.std.proofs.Common.{◌++◌}
use Rattle.std.proofs.lemmas.Option.{slice_get_within}
use Rattle.std.proofs.lemmas.Result.{IfOk-from_err}
use Rattle.std.specs.Prelude.{slice_get}
use Rattle.grid_moves.specs.declared.Cell.{Cell}
use Rattle.grid_moves.specs.Grid.{is_free}
use Rattle.best_first.specs.declared.node.Node.{Node}
use Rattle.best_first.specs.declared.state.Layout.TheVariants.{ByCell}
use Rattle.best_first.specs.State.{state_number, start_at}
use Rattle.best_first.specs.Table.{Table}
use Rattle.best_first.specs.Trace.{node_cell}
use Rattle.plain_search.specs.Rule.{plain_links}
use Rattle.best_first.proofs.Progress.{next_taken, shown_plainly}
use Rattle.plain_search.proofs.Concluding.{taken_free, may_go_on, has_offered, has_stopped}
use Rattle.plain_search.proofs.Posed.{plain_asked, fit}
use Rattle.plain_search.proofs.Shapes.{ready_on, narrow_on, ◌▸◌}
use Rattle.plain_search.proofs.search.advance.Goals as goal

pub offer_all-requires-clause-may : goal.offer_all-requires-clause-may
offer_all-requires-clause-may g c = λ n h.
    let grid = g.T.Terrain.grid c.args.t.now in
    let asked = plain_asked grid c.args.ends.from c.args.ends.to c.requires.whole c.requires.free
    c.requires.to in
    may_go_on asked c.requires.taken c.reserve.new.self c.reserve.ensures.table
    (ready_on {a = c.args.space.now} {b = c.reserve.new.self} grid c.requires.ready c.reserve.ensures.shape)
    n h

pub node-requires : goal.node-requires
node-requires g c =
    let f = c.in-Some.ensures.first in
    let within = slice_get_within c.offer_all.new.space.table.nodes c.in-Some.next f.node f.node_is in
    subst (λ (ns : List Node). c.in-Some.next < length ns) (sym c.take_next.ensures.nodes) within

pub state_at-requires : goal.state_at-requires
state_at-requires g c =
    let grid = g.T.Terrain.grid c.args.t.now in
    let asked = plain_asked grid c.args.ends.from c.args.ends.to c.requires.whole c.requires.free
    c.requires.to in
    let read = ap (λ (ns : List Node). slice_get ns c.in-Some.next) (sym c.take_next.ensures.nodes)
    ∙ c.node.ensures in
    let offered = has_offered asked c.requires.taken c.reserve.new.self.table
    c.offer_all.new.space.table c.reserve.ensures.table c.requires.open_ended c.offer_all.ensures.expanded in
    let on = next_taken (fit asked) offered c.in-Some.next c.node.result c.in-Some.ensures.first read
    (state_number grid.width (start_at (node_cell c.node.result)))
    (shown_plainly ByCell grid.width (plain_links grid) c.node.result
    (state_number grid.width (start_at (node_cell c.node.result))) asked.printed refl) in
    ap (λ (u : Cell). is_free grid u) c.cell.ensures ∙ taken_free asked on c.node.result read

pub returns-in-None-clause-goes_on : goal.returns-in-None-clause-goes_on
returns-in-None-clause-goes_on g c =
    let grid = g.T.Terrain.grid c.args.t.now in
    let asked = plain_asked grid c.args.ends.from c.args.ends.to c.requires.whole c.requires.free
    c.requires.to in
    let offered = has_offered asked c.requires.taken c.reserve.new.self.table
    c.offer_all.new.space.table c.reserve.ensures.table c.requires.open_ended c.offer_all.ensures.expanded in
    has_stopped grid c.args.ends.from c.args.ends.to offered c.in-None.ensures.none

pub returns-in_ok-push-in-Some-clause-goes_on : goal.returns-in_ok-push-in-Some-clause-goes_on
returns-in_ok-push-in-Some-clause-goes_on g c =
    let grid = g.T.Terrain.grid c.args.t.now in
    let asked = plain_asked grid c.args.ends.from c.args.ends.to c.requires.whole c.requires.free
    c.requires.to in
    let read = ap (λ (ns : List Node). slice_get ns c.in-Some.next) (sym c.take_next.ensures.nodes)
    ∙ c.node.ensures in
    let offered = has_offered asked c.requires.taken c.reserve.new.self.table
    c.offer_all.new.space.table c.reserve.ensures.table c.requires.open_ended c.offer_all.ensures.expanded in
    let on = next_taken (fit asked) offered c.in-Some.next c.node.result c.in-Some.ensures.first read
    (state_number grid.width (start_at (node_cell c.node.result)))
    (shown_plainly ByCell grid.width (plain_links grid) c.node.result
    (state_number grid.width (start_at (node_cell c.node.result))) asked.printed refl) in
    let pushed : c.push.new.self
    ≡ c.args.taken.now ++ state_number grid.width (start_at (node_cell c.node.result)) ∷ []
    = c.in_ok-push-in-Some.ensures.pushed
    ∙ ap (λ (i : ℕ). c.args.taken.now ++ i ∷ []) (c.state_at.ensures
    ∙ ap (λ (u : Cell). state_number grid.width (start_at u)) c.cell.ensures) in
    rw (c.in-Some.ensures.closed, pushed) on

pub offer_all-requires-clause-known : goal.offer_all-requires-clause-known
offer_all-requires-clause-known g c =
    let searching = c.requires.taken.searching in
    subst (λ (l : Table). c.args.at < length l.nodes) (sym c.reserve.ensures.table)
    (slice_get_within c.args.space.now.table.nodes c.args.at searching.node searching.node_is)

pub offer_all-requires-clause-layout : goal.offer_all-requires-clause-layout
offer_all-requires-clause-layout g c = c.reserve.ensures.shape.layout ∙ c.requires.ready.layout

pub returns-in_err-reserve-clause-goes_on : goal.returns-in_err-reserve-clause-goes_on
returns-in_err-reserve-clause-goes_on g c = IfOk-from_err c.from_residual.result _ c.from_residual.ensures.0

pub returns-in_err-reserve-clause-one_more : goal.returns-in_err-reserve-clause-one_more
returns-in_err-reserve-clause-one_more g c = IfOk-from_err c.from_residual.result _ c.from_residual.ensures.0

pub returns-in_err-reserve-clause-ready : goal.returns-in_err-reserve-clause-ready
returns-in_err-reserve-clause-ready g c =
    ready_on (g.T.Terrain.grid c.args.t.now) c.requires.ready c.reserve.ensures.shape

pub returns-in_err-push-in-Some-clause-goes_on : goal.returns-in_err-push-in-Some-clause-goes_on
returns-in_err-push-in-Some-clause-goes_on g c =
    IfOk-from_err c.from_residual-in_err-push-in-Some.result _ c.from_residual-in_err-push-in-Some.ensures.0

pub returns-in_err-push-in-Some-clause-one_more : goal.returns-in_err-push-in-Some-clause-one_more
returns-in_err-push-in-Some-clause-one_more g c =
    IfOk-from_err c.from_residual-in_err-push-in-Some.result _ c.from_residual-in_err-push-in-Some.ensures.0

pub returns-in_err-push-in-Some-clause-ready : goal.returns-in_err-push-in-Some-clause-ready
returns-in_err-push-in-Some-clause-ready g c =
    ready_on (g.T.Terrain.grid c.args.t.now) c.requires.ready
    (c.reserve.ensures.shape ▸ c.offer_all.ensures.shape ▸ c.take_next.ensures.shape)

pub returns-in-None-clause-one_more : goal.returns-in-None-clause-one_more
returns-in-None-clause-one_more g c = tt

pub returns-in-None-clause-ready : goal.returns-in-None-clause-ready
returns-in-None-clause-ready g c =
    ready_on (g.T.Terrain.grid c.args.t.now) c.requires.ready
    (c.reserve.ensures.shape ▸ c.offer_all.ensures.shape ▸ c.take_next.ensures.shape)

pub returns-in_ok-push-in-Some-clause-one_more : goal.returns-in_ok-push-in-Some-clause-one_more
returns-in_ok-push-in-Some-clause-one_more g c =
    ap (λ (ns : List ℕ). length ns) c.in_ok-push-in-Some.ensures.pushed
    ∙ length-append c.args.taken.now (c.state_at.result ∷ [])

pub returns-in_ok-push-in-Some-clause-ready : goal.returns-in_ok-push-in-Some-clause-ready
returns-in_ok-push-in-Some-clause-ready g c =
    ready_on (g.T.Terrain.grid c.args.t.now) c.requires.ready
    (c.reserve.ensures.shape ▸ c.offer_all.ensures.shape ▸ c.take_next.ensures.shape)

pub offer_all-requires-clause-narrow : goal.offer_all-requires-clause-narrow
offer_all-requires-clause-narrow g c =
    narrow_on (g.T.Terrain.grid c.args.t.now) c.requires.whole c.requires.ready c.reserve.ensures.shape

pub offer_all-requires-clause-room : goal.offer_all-requires-clause-room
offer_all-requires-clause-room g c = c.in_ok-reserve.ensures.room
