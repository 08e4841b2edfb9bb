-- Each place adds a walk.
use Rattle.std.proofs.Common.{inl, inr, arith}
use Rattle.std.proofs.lemmas.Bool.{or_right}
use Rattle.table_repair.specs.Lines.{is_on_line}
use Rattle.table_repair.specs.Abreast.{is_at_one}
use Rattle.table_repair.proofs.Abreast.{abreast_beside, left_less}
use Rattle.table_repair.proofs.Across.{on_map, cell_there, none_after, places_few}
use Rattle.table_repair.proofs.Entering.{enter_place, beside_behind}
use Rattle.table_repair.proofs.Mends.{right_stays}
use Rattle.table_repair.proofs.Sweeping.{among_from}
use Rattle.table_repair.proofs.Totals.{few_begun, counted_begun, more_begun, later_on}
use Rattle.table_repair.proofs.sweep.enter_line.Goals as goal

pub loop-place-init : goal.loop-place-init
loop-place-init g c =
    let a = c.args in
    let value = c.len-changed.ensures.value in
    let fewer = c.lead_on.ensures.fewer in
    let short = c.requires.short in
    let steps = c.lead_on.ensures.steps in
    record {
      abreast = rw value (abreast_beside (is_on_line a.d a.line a.places) c.lead_on.ensures.abreast);
      behind = λ w k. beside_behind (is_on_line a.d a.line a.places) (c.lead_on.ensures.behind w k);
      begun = omega arith;
      short = omega arith;
      few = omega arith;
      counted = omega arith;
      later = c.lead_on.ensures.later;
    }

pub begin-changed-requires-clause-standing : goal.begin-changed-requires-clause-standing
begin-changed-requires-clause-standing g c = c.loop-place.invariant.abreast.standing

pub begin-changed-requires-clause-from_inside : goal.begin-changed-requires-clause-from_inside
begin-changed-requires-clause-from_inside g c =
    let a = c.args in
    on_map a.grid.now a.d a.line a.places c.cell_on.result c.requires.line c.requires.places
    (cell_there a.d a.line c.loop-place.place a.places c.cell_on.ensures
    (among_from a.places c.loop-place.place c.loop-place.invariant.begun c.loop-place-test.true))

pub begin-changed-requires-clause-from_right : goal.begin-changed-requires-clause-from_right
begin-changed-requires-clause-from_right g c =
    let a = c.args in
    let there = cell_there a.d a.line c.loop-place.place a.places c.cell_on.ensures
    (among_from a.places c.loop-place.place c.loop-place.invariant.begun c.loop-place-test.true) in
    right_stays c.loop-place.invariant.abreast.mends c.cell_on.result a.d
    (on_map a.grid.now a.d a.line a.places c.cell_on.result c.requires.line c.requires.places there)
    (c.requires.line_right c.cell_on.result there)

pub loop-place-preserved : goal.loop-place-preserved
loop-place-preserved g c =
    let a = c.args in
    let i = c.loop-place.invariant in
    let place = c.loop-place.place in
    let among = among_from a.places place i.begun c.loop-place-test.true in
    let there = cell_there a.d a.line place a.places c.cell_on.ensures among in
    let begun = i.begun in
    record {
      abreast = rw (← more_begun c.begin-changed.ensures.more) (enter_place (is_at_one a.walks.now.items)
          a.line place a.places c.cell_on.ensures among i.abreast
          (right_stays i.abreast.mends c.cell_on.result a.d
          (on_map a.grid.now a.d a.line a.places c.cell_on.result c.requires.line c.requires.places there)
          (c.requires.line_right c.cell_on.result there)) c.begin-changed.ensures.abreast);
      behind = λ w k. elim (c.begin-changed.ensures.behind w k) [
        | inl b ↦ i.behind w b
        | inr e ↦ record {
          from = c.cell_on.result;
          stood = or_right (is_at_one a.walks.now.items c.cell_on.result)
              (is_on_line a.d a.line a.places c.cell_on.result) there;
          behind = e;
        }
      ];
      begun = omega arith;
      short = c.begin-changed.ensures.short;
      few = few_begun _ _ place _ _ c.loop-place-test.true i.few c.begin-changed.ensures.few;
      counted = counted_begun _ _ _ _ _ _ _ place _ _ c.loop-place-test.true i.counted
          c.begin-changed.ensures.steps;
      later = later_on i.later c.begin-changed.ensures.later;
    }

pub returns-clause-abreast : goal.returns-clause-abreast
returns-clause-abreast g c = left_less c.loop-place.invariant.abreast (λ w k.
    none_after c.args.d c.args.line c.loop-place.place c.args.places w c.loop-place-test.false)

pub returns-clause-behind : goal.returns-clause-behind
returns-clause-behind g c = c.loop-place.invariant.behind

pub returns-clause-few : goal.returns-clause-few
returns-clause-few g c =
    let few = c.loop-place.invariant.few in
    let end = c.requires.places in
    let all = places_few c.args.grid.now c.args.d c.requires.standing.ready.grid in
    omega arith

pub returns-clause-steps : goal.returns-clause-steps
returns-clause-steps g c = let counted = c.loop-place.invariant.counted in omega arith
