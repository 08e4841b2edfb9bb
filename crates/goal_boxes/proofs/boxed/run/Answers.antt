use Rattle.std.proofs.Common.{◌≤◌, ◌≡◌, ◌∙◌, ◌+◌, ℕ, true, ap, sym, length, List, subst, arith}
use Rattle.std.specs.Prelude.{Option, IfSome, IfNone}
use Rattle.std.proofs.lemmas.Option.{slice_get_within}
use Rattle.std.proofs.lemmas.Result.{IfOk-from_err, IfOk-weaker}
use Rattle.grid_moves.specs.declared.Cell.{Cell}
use Rattle.grid_moves.specs.Grid.{is_free}
use Rattle.best_first.specs.declared.node.Node.{Node}
use Rattle.best_first.specs.Trace.{node_cell}
use Rattle.best_first.proofs.Mirrors.{some_node}
use Rattle.goal_boxes.specs.Offers.{Agree}
use Rattle.goal_boxes.specs.Progress.{GoesOn}
use Rattle.best_first.proofs.Progress.{taken_fits}
use Rattle.plain_search.proofs.Concluding.{taken_free, differs_there, same_there}
use Rattle.plain_search.proofs.Posed.{fit}
use Rattle.goal_boxes.proofs.Existing.{agree}
use Rattle.goal_boxes.proofs.Moves.{boxed_asked}
use Rattle.goal_boxes.proofs.Right.{exhausted_none}
use Rattle.goal_boxes.proofs.boxed.run.Goals as goal

pub boxes_of-requires-clause-free : goal.boxes_of-requires-clause-free
boxes_of-requires-clause-free g c =
    let grid = g.T.Terrain.grid c.args.t.now in
    ap (λ (u : Cell). is_free grid u) c.cell-in-taking.ensures
    ∙ taken_free (boxed_asked grid g.K.Meant.boxes c.args.ends.from c.args.ends.to c.begin.ensures.whole
    c.requires.from c.requires.to) c.taking.invariant.taken c.node-in-taking.result c.node-in-taking.ensures

pub advance-requires-clause-boxes : goal.advance-requires-clause-boxes
advance-requires-clause-boxes g c = λ n read.
    let grid = g.T.Terrain.grid c.args.t.now in
    let free : is_free grid c.cell-in-taking.result ≡ true =
    ap (λ (u : Cell). is_free grid u) c.cell-in-taking.ensures
    ∙ taken_free (boxed_asked grid g.K.Meant.boxes c.args.ends.from c.args.ends.to c.begin.ensures.whole
    c.requires.from c.requires.to) c.taking.invariant.taken c.node-in-taking.result
    c.node-in-taking.ensures in
    let same : c.cell-in-taking.result ≡ node_cell n = c.cell-in-taking.ensures
    ∙ ap (λ (m : Node). node_cell m)
    (some_node c.node-in-taking.result n (sym c.node-in-taking.ensures ∙ read)) in
    subst (λ (u : Cell). Agree c.in_ok-boxes.boxes g.K.Meant.boxes u) same
    (agree grid g.K.Meant.boxes c.requires.boxes c.cell-in-taking.result free
    c.in_ok-boxes.boxes c.in_ok-boxes.ensures.boxes)

pub taking-smaller : goal.taking-smaller
taking-smaller g c =
    let grid = g.T.Terrain.grid c.args.t.now in
    let b = g.K.Meant.boxes in
    let taken =
    subst (λ (o : Option ℕ). GoesOn grid b c.args.ends.from c.args.ends.to c.advance.new.space.table
    c.advance.new.taken o) c.in-Some.is c.in_ok-next.ensures.goes_on in
    let asked = boxed_asked grid b c.args.ends.from c.args.ends.to c.begin.ensures.whole c.requires.from
    c.requires.to in
    let most = taken_fits (fit asked) taken in
    let more = subst (λ (o : Option ℕ). IfSome o
    (λ id. length c.advance.new.taken ≡ length c.taking.taken + 1)) c.in-Some.is
    c.in_ok-next.ensures.one_more in
    omega arith

pub returns-in-None-clause-least : goal.returns-in-None-clause-least
returns-in-None-clause-least g c =
    let grid = g.T.Terrain.grid c.args.t.now in
    let b = g.K.Meant.boxes in
    exhausted_none grid b c.args.ends.to c.requires.boxes c.args.ends.from c.requires.from c.advance.new.taken
    (subst (λ (o : Option ℕ). GoesOn grid b c.args.ends.from c.args.ends.to c.advance.new.space.table
    c.advance.new.taken o) c.in-None.is c.in_ok-next.ensures.goes_on)

one_more : (before after first old new : ℕ) → after ≤ before + 1 → before + 1 ≤ first + old → new ≡ old + 1
    → after + 1 ≤ first + new
one_more before after first old new a b n = omega arith

at_first : (n k : ℕ) → k ≡ 1 → n + 1 ≤ n + k
at_first n k e = omega arith

no_more : (before after first : ℕ) (old new : List ℕ) → after ≤ before + 1 → before + 1 ≤ first + length old
    → new ≡ old → after ≤ first + length new
no_more before after first old new a b e = rw e (let c = a in let d = b in omega arith)

at_last : (passes first : ℕ) (new old : List ℕ) → passes + 1 ≤ first + length old → new ≡ old
    → passes ≤ first + length new
at_last passes first new old b e = rw e (let c = b in omega arith)

pub taking-preserved : goal.taking-preserved
taking-preserved g c = record {
  taken = subst (λ (o : Option ℕ). GoesOn (g.T.Terrain.grid c.args.t.now) g.K.Meant.boxes c.args.ends.from
      c.args.ends.to c.advance.new.space.table c.advance.new.taken o) c.in-Some.is
      c.in_ok-next.ensures.goes_on;
  ready = c.advance.ensures.ready;
  stands = c.boxes_of.ensures.stands;
  passes = one_more _ _ _ _ _ c.boxes_of.ensures.passes c.taking.invariant.passes
      (subst (λ (o : Option ℕ). IfSome o (λ id. length c.advance.new.taken ≡ length c.taking.taken + 1))
      c.in-Some.is c.in_ok-next.ensures.one_more);
}

pub returns-in_err-begin-clause-run : goal.returns-in_err-begin-clause-run
returns-in_err-begin-clause-run g c = IfOk-from_err c.from_residual.result _ c.from_residual.ensures.0

pub returns-in_err-begin-clause-least : goal.returns-in_err-begin-clause-least
returns-in_err-begin-clause-least g c = IfOk-from_err c.from_residual.result _ c.from_residual.ensures.0

pub returns-in_err-begin-clause-passes : goal.returns-in_err-begin-clause-passes
returns-in_err-begin-clause-passes g c = IfOk-from_err c.from_residual.result _ c.from_residual.ensures.0

pub returns-in_err-boxes-clause-run : goal.returns-in_err-boxes-clause-run
returns-in_err-boxes-clause-run g c =
    IfOk-from_err c.from_residual-in_err-boxes.result _ c.from_residual-in_err-boxes.ensures.0

pub returns-in_err-boxes-clause-least : goal.returns-in_err-boxes-clause-least
returns-in_err-boxes-clause-least g c =
    IfOk-from_err c.from_residual-in_err-boxes.result _ c.from_residual-in_err-boxes.ensures.0

pub returns-in_err-boxes-clause-passes : goal.returns-in_err-boxes-clause-passes
returns-in_err-boxes-clause-passes g c =
    IfOk-from_err c.from_residual-in_err-boxes.result _ c.from_residual-in_err-boxes.ensures.0

pub returns-in_err-next-clause-run : goal.returns-in_err-next-clause-run
returns-in_err-next-clause-run g c =
    IfOk-from_err c.from_residual-in_err-next.result _ c.from_residual-in_err-next.ensures.0

pub returns-in_err-next-clause-least : goal.returns-in_err-next-clause-least
returns-in_err-next-clause-least g c =
    IfOk-from_err c.from_residual-in_err-next.result _ c.from_residual-in_err-next.ensures.0

pub returns-in_err-next-clause-passes : goal.returns-in_err-next-clause-passes
returns-in_err-next-clause-passes g c =
    IfOk-from_err c.from_residual-in_err-next.result _ c.from_residual-in_err-next.ensures.0

pub node-requires : goal.node-requires
node-requires g c =
    let searching = c.taking.invariant.taken.searching in
    slice_get_within c.taking.space.table.nodes c.taking.at searching.node searching.node_is

pub node-requires-in-taking : goal.node-requires-in-taking
node-requires-in-taking g c =
    let searching = c.taking.invariant.taken.searching in
    slice_get_within c.taking.space.table.nodes c.taking.at searching.node searching.node_is

pub advance-requires-clause-open_ended : goal.advance-requires-clause-open_ended
advance-requires-clause-open_ended g c = λ n h.
    differs_there c.taking.space.table.nodes c.taking.at c.node.result n c.cell.result c.args.ends.to
    c.node.ensures c.cell.ensures c.ne.ensures h c.taking-test.true

pub found-requires-clause-goal : goal.found-requires-clause-goal
found-requires-clause-goal g c = λ n h.
    same_there c.taking.space.table.nodes c.taking.at c.node.result n c.cell.result c.args.ends.to
    c.node.ensures c.cell.ensures c.ne.ensures h c.taking-test.false

pub taking-init : goal.taking-init
taking-init g c = record {
  taken = c.in_ok-begin.ensures.taken;
  ready = c.in_ok-begin.ensures.ready;
  stands = c.requires.stands;
  passes = at_first c.args.passes.now (length c.begin.new.taken) c.in_ok-begin.ensures.one;
}

pub returns-in-None-clause-run : goal.returns-in-None-clause-run
returns-in-None-clause-run g c =
    subst (λ (o : Option ℕ). GoesOn (g.T.Terrain.grid c.args.t.now) g.K.Meant.boxes c.args.ends.from
    c.args.ends.to c.advance.new.space.table c.advance.new.taken o) c.in-None.is
    c.in_ok-next.ensures.goes_on

pub returns-in-None-clause-passes : goal.returns-in-None-clause-passes
returns-in-None-clause-passes g c =
    no_more _ _ c.args.passes.now c.taking.taken c.advance.new.taken c.boxes_of.ensures.passes
    c.taking.invariant.passes
    (subst (λ (o : Option ℕ). IfNone o (c.advance.new.taken ≡ c.taking.taken)) c.in-None.is
    c.in_ok-next.ensures.no_more)

pub returns-clause-run : goal.returns-clause-run
returns-clause-run g c = c.found.ensures.run

pub returns-clause-least : goal.returns-clause-least
returns-clause-least g c = c.found.ensures.least

pub returns-clause-passes : goal.returns-clause-passes
returns-clause-passes g c =
    IfOk-weaker c.found.result _ _ (λ r same.
    at_last c.taking.passes c.args.passes.now r.taken c.taking.taken c.taking.invariant.passes same)
    c.found.ensures.taken

pub advance-requires-clause-from : goal.advance-requires-clause-from
advance-requires-clause-from g c = c.requires.from

pub advance-requires-clause-to : goal.advance-requires-clause-to
advance-requires-clause-to g c = c.requires.to

pub advance-requires-clause-whole : goal.advance-requires-clause-whole
advance-requires-clause-whole g c = c.in_ok-begin.ensures.whole

pub advance-requires-clause-ready : goal.advance-requires-clause-ready
advance-requires-clause-ready g c = c.taking.invariant.ready

pub advance-requires-clause-taken : goal.advance-requires-clause-taken
advance-requires-clause-taken g c = c.taking.invariant.taken

pub boxes_of-requires-clause-stands : goal.boxes_of-requires-clause-stands
boxes_of-requires-clause-stands g c = c.taking.invariant.stands

pub found-requires-clause-boxes : goal.found-requires-clause-boxes
found-requires-clause-boxes g c = c.requires.boxes

pub found-requires-clause-whole : goal.found-requires-clause-whole
found-requires-clause-whole g c = c.in_ok-begin.ensures.whole

pub found-requires-clause-from : goal.found-requires-clause-from
found-requires-clause-from g c = c.requires.from

pub found-requires-clause-to : goal.found-requires-clause-to
found-requires-clause-to g c = c.requires.to

pub found-requires-clause-taken : goal.found-requires-clause-taken
found-requires-clause-taken g c = c.taking.invariant.taken
