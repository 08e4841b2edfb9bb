use Rattle.std.proofs.Common.{◌≡◌, ◌+◌, ℕ, length, subst, arith, sym, ◌∙◌}
use Rattle.std.specs.Prelude.{Option, IfSome}
use Rattle.std.proofs.lemmas.Option.{slice_get_within}
use Rattle.std.proofs.lemmas.Result.{IfOk-from_err}
use Rattle.plain_search.specs.Progress.{GoesOn}
use Rattle.best_first.proofs.Progress.{taken_fits}
use Rattle.plain_search.proofs.Concluding.{differs_there, same_there}
use Rattle.plain_search.proofs.Posed.{plain_asked, fit}
use Rattle.plain_search.proofs.search.take_all.Goals as goal

pub returns-in_err-begin-clause-ended : goal.returns-in_err-begin-clause-ended
returns-in_err-begin-clause-ended g c = IfOk-from_err c.from_residual.result _ c.from_residual.ensures.0

pub returns-in_err-begin-clause-whole : goal.returns-in_err-begin-clause-whole
returns-in_err-begin-clause-whole g c = IfOk-from_err c.from_residual.result _ c.from_residual.ensures.0

pub returns-in_err-begin-clause-layout : goal.returns-in_err-begin-clause-layout
returns-in_err-begin-clause-layout g c = c.begin.ensures.layout

pub returns-in_err-begin-clause-places : goal.returns-in_err-begin-clause-places
returns-in_err-begin-clause-places g c = c.begin.ensures.places

pub taking-init : goal.taking-init
taking-init g c = record { taken = c.in_ok-begin.ensures.taken; ready = c.in_ok-begin.ensures.ready }

pub returns-in_err-next-clause-ended : goal.returns-in_err-next-clause-ended
returns-in_err-next-clause-ended g c =
    IfOk-from_err c.from_residual-in_err-next.result _ c.from_residual-in_err-next.ensures.0

pub returns-in_err-next-clause-whole : goal.returns-in_err-next-clause-whole
returns-in_err-next-clause-whole g c =
    IfOk-from_err c.from_residual-in_err-next.result _ c.from_residual-in_err-next.ensures.0

pub returns-in_err-next-clause-layout : goal.returns-in_err-next-clause-layout
returns-in_err-next-clause-layout g c = c.advance.ensures.ready.layout ∙ sym c.requires.layout

pub returns-in_err-next-clause-places : goal.returns-in_err-next-clause-places
returns-in_err-next-clause-places g c = c.advance.ensures.ready.places ∙ sym c.requires.room

pub taking-smaller : goal.taking-smaller
taking-smaller g c =
    let grid = g.T.Terrain.grid c.args.t.now in
    let taken = subst (λ (o : Option ℕ). GoesOn grid c.args.ends.from c.args.ends.to c.advance.new.space.table
    c.advance.new.taken o) c.in-Some.is c.in_ok-next.ensures.goes_on in
    let most = taken_fits
    (fit (plain_asked grid c.args.ends.from c.args.ends.to c.begin.ensures.whole c.requires.from
    c.requires.to))
    taken in
    let more = subst (λ (o : Option ℕ). IfSome o
    (λ id. length c.advance.new.taken ≡ length c.taking.taken + 1)) c.in-Some.is
    c.in_ok-next.ensures.one_more in
    omega arith

pub taking-preserved : goal.taking-preserved
taking-preserved g c = record {
  taken = subst (λ (o : Option ℕ). GoesOn (g.T.Terrain.grid c.args.t.now) c.args.ends.from c.args.ends.to
      c.advance.new.space.table c.advance.new.taken o) c.in-Some.is c.in_ok-next.ensures.goes_on;
  ready = c.advance.ensures.ready;
}

pub returns-in-None-clause-ended : goal.returns-in-None-clause-ended
returns-in-None-clause-ended g c =
    subst (λ (o : Option ℕ). GoesOn (g.T.Terrain.grid c.args.t.now) c.args.ends.from c.args.ends.to
    c.advance.new.space.table c.advance.new.taken o) c.in-None.is c.in_ok-next.ensures.goes_on

pub returns-in-None-clause-whole : goal.returns-in-None-clause-whole
returns-in-None-clause-whole g c = c.in_ok-begin.ensures.whole

pub returns-in-None-clause-layout : goal.returns-in-None-clause-layout
returns-in-None-clause-layout g c = c.advance.ensures.ready.layout ∙ sym c.requires.layout

pub returns-in-None-clause-places : goal.returns-in-None-clause-places
returns-in-None-clause-places g c = c.advance.ensures.ready.places ∙ sym c.requires.room

pub returns-clause-whole : goal.returns-clause-whole
returns-clause-whole g c = c.in_ok-begin.ensures.whole

pub returns-clause-layout : goal.returns-clause-layout
returns-clause-layout g c = c.taking.invariant.ready.layout ∙ sym c.requires.layout

pub returns-clause-places : goal.returns-clause-places
returns-clause-places g c = c.taking.invariant.ready.places ∙ sym c.requires.room

pub node-requires : goal.node-requires
node-requires g c =
    let searching = c.taking.invariant.taken.searching in
    slice_get_within c.taking.space.table.nodes c.taking.at searching.node searching.node_is

pub advance-requires-clause-open_ended : goal.advance-requires-clause-open_ended
advance-requires-clause-open_ended g c = λ n h.
    differs_there c.taking.space.table.nodes c.taking.at c.node.result n c.cell.result c.args.ends.to
    c.node.ensures c.cell.ensures c.ne.ensures h c.taking-test.true

pub returns-clause-ended : goal.returns-clause-ended
returns-clause-ended g c = (
  c.taking.invariant.taken,
  λ n h. same_there c.taking.space.table.nodes c.taking.at c.node.result n c.cell.result c.args.ends.to
      c.node.ensures c.cell.ensures c.ne.ensures h c.taking-test.false,
)
