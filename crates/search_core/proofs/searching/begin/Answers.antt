use Rattle.std.proofs.Common.{◌∙◌, ◌<◌, ◌≤◌, ap, arith, length, subst, sym, List, ℕ, [], ◌∷◌, ◌++◌}
use Rattle.std.specs.Prelude.{OnOk, Ok, Err}
use Rattle.std.specs.declared.result.Result.{Result}
use Rattle.best_first.specs.declared.state.State.{State}
use Rattle.best_first.specs.State.{state_number}
use Rattle.grid_moves.proofs.Legal.{free_inside}
use Rattle.search_core.proofs.Standing.{reached_first}
use Rattle.search_core.proofs.searching.begin.Goals as goal

on_ok : {T E : Type 0} (result : Result T E) {P Q : Type 0} → OnOk result P → (P → Q) → OnOk result Q
on_ok (Ok v) p f = f p
on_ok (Err e) p f = tt

below : (y height : ℕ) → y < height → height ≤ 4096 → y < 4096
below y height h k = omega arith

pub returns-clause-reached : goal.returns-clause-reached
returns-clause-reached g c = on_ok c.push.result c.push.ensures.pushed (λ pushed x served.
    let number = c.number.ensures
    ∙ ap (λ (u : State). state_number c.width-width.result u) c.start.ensures in
    reached_first served c.begin.new.self
    (c.width-width.ensures.whole x served.stands) c.requires.layout (c.requires.places x served)
    (c.width-width.ensures.is x served.stands) c.in_ok-begin.ensures.layout c.in_ok-begin.ensures.places
    c.in_ok-begin.ensures.width c.in_ok-begin.ensures.begun c.requires.none
    (pushed ∙ ap (λ (n : ℕ). c.args.taken.now ++ n ∷ []) number))

pub returns-clause-one : goal.returns-clause-one
returns-clause-one g c =
    on_ok c.push.result c.push.ensures.pushed (λ pushed.
    ap (λ (ns : List ℕ). length ns)
    (pushed ∙ ap (λ (ns : List ℕ). ns ++ c.number.result ∷ []) c.requires.none))

pub begin-requires-clause-narrow : goal.begin-requires-clause-narrow
begin-requires-clause-narrow g c =
    let x = c.requires.some.0 in
    let served = c.requires.some.1 in
    subst (λ (n : ℕ). n ≤ 4096) (sym (c.width-width.ensures.is x served.stands))
    (c.width-width.ensures.whole x served.stands).sides.narrow

pub number-requires : goal.number-requires
number-requires g c =
    let x = c.requires.some.0 in
    let served = c.requires.some.1 in
    let grid = c.width-width.ensures.whole x served.stands in
    let is = c.width-width.ensures.is x served.stands in
    let inside = free_inside x c.args.query.from served.from in
    let start = sym c.start.ensures in
    record {
      column = subst (λ (u : State). u.cell.x < c.width-width.result) start
          (subst (λ (n : ℕ). c.args.query.from.x < n) (sym is) inside.0);
      row = subst (λ (u : State). u.cell.y < 4096) start
          (below c.args.query.from.y x.height inside.1 grid.sides.low);
      narrow = subst (λ (n : ℕ). n ≤ 4096) (sym is) grid.sides.narrow;
    }
