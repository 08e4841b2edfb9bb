use Rattle.std.proofs.Common.{◌≡◌, ◌+◌, ◌-◌, ◌∙◌, ap, sym, refl, arith, Some, None, subst, ℕ}
use Rattle.grid_moves.specs.declared.Cell.{Cell}
use Rattle.grid_moves.specs.Move.{all_dirs}
use Rattle.potential_check.specs.Moves.{first_ahead, first_in_row}
use Rattle.potential_check.specs.Rising.{IsColumn, climbs, height_at}
use Rattle.potential_check.proofs.Reaching.{above_low, before_one, rows_next, rows_off, rows_taken}
use Rattle.potential_check.proofs.Climbing.{first_climb, no_climb, no_move, or_first, or_second, row_end}
use Rattle.potential_check.proofs.Climbing.{row_step, with_source}
use Rattle.potential_check.proofs.rising.Hills.first_in_row.Goals as goal
use Rattle.potential_check.proofs.rising.Hills.first_in_row.Goals.{then-free+in_default, else-free}

pub take-requires-clause-above : goal.take-requires-clause-above
take-requires-clause-above c =
    above_low c.args.self.now c.requires.hills c.args.y 0 c.args.rows.now c.requires.rows

pub take-requires-2-clause-above : goal.take-requires-2-clause-above
take-requires-2-clause-above c =
    let off = c.before-2.ensures.is.none refl in
    let first = rows_off c.args.self.now c.requires.hills c.args.y c.before-2.result c.args.rows.now
    c.take.result.1 c.take.result.0 (omega (arith, c.requires.hills.grid.sides.narrow)) c.take.ensures.above
    c.take.ensures.here c.take.ensures.below c.requires.rows in
    above_low c.args.self.now c.requires.hills c.args.y 0 c.take.result.1 first.1

pub loop-x-init : goal.loop-x-init
loop-x-init c =
    let off = c.before-2.ensures.is.none refl in
    let first = rows_off c.args.self.now c.requires.hills c.args.y c.before-2.result c.args.rows.now
    c.take.result.1 c.take.result.0 (omega (arith, c.requires.hills.grid.sides.narrow)) c.take.ensures.above
    c.take.ensures.here c.take.ensures.below c.requires.rows in
    let second = rows_taken c.args.self.now c.requires.hills c.args.y 0 c.take.result.1 c.take-2.result.1
    c.take-2.result.0 c.take-2.ensures.above c.take-2.ensures.here c.take-2.ensures.below first.1 in
    record {
      left = λ before b. subst (λ (n : ℕ). IsColumn c.args.self.now n c.args.y c.take.result.0)
          (off ∙ sym (b.none refl)) first.0;
      middle = second.0;
      rest = second.1;
      first = let all : c.args.self.now.grid.now.width ≡ c.args.self.now.grid.now.width - 0 = omega arith in
          ap (λ n. first_in_row c.args.self.now.grid.now (climbs (height_at c.args.self.now)) c.args.y 0 n)
          all;
    }

pub take-requires-in-loop-x-clause-above : goal.take-requires-in-loop-x-clause-above
take-requires-in-loop-x-clause-above c =
    above_low c.args.self.now c.requires.hills c.args.y (c.loop-x.x + 1) c.loop-x.rest c.loop-x.invariant.rest

pub returns-in-Some-clause-first : goal.returns-in-Some-clause-first
returns-in-Some-clause-first c =
    let hills = c.args.self.now in
    let u : Cell = record { x = c.loop-x.x; y = c.args.y } in
    let right = rows_taken hills c.requires.hills c.args.y (c.loop-x.x + 1) c.loop-x.rest
    c.take-in-loop-x.result.1 c.take-in-loop-x.result.0 c.take-in-loop-x.ensures.above
    c.take-in-loop-x.ensures.here c.take-in-loop-x.ensures.below c.loop-x.invariant.rest in
    let climb = first_climb hills c.loop-x.left c.loop-x.middle c.take-in-loop-x.result.0 c.loop-x.x c.args.y
    c.loop-x.invariant.left c.loop-x.invariant.middle right.0 in
    let found : first_ahead hills.grid.now (climbs (height_at hills)) u all_dirs ≡ Some (u, c.in-Some.v) =
    sym climb ∙ ap (with_source u) (sym c.first_steep_from.ensures ∙ c.in-Some.is) in
    sym (c.loop-x.invariant.first
    ∙ row_step hills.grid.now (climbs (height_at hills)) c.args.y c.loop-x.x hills.grid.now.width (omega
    arith)
    ∙ or_first _ _ (u, c.in-Some.v) found)

pub loop-x-preserved : goal.loop-x-preserved
loop-x-preserved c =
    let hills = c.args.self.now in
    let u : Cell = record { x = c.loop-x.x; y = c.args.y } in
    let right = rows_taken hills c.requires.hills c.args.y (c.loop-x.x + 1) c.loop-x.rest
    c.take-in-loop-x.result.1 c.take-in-loop-x.result.0 c.take-in-loop-x.ensures.above
    c.take-in-loop-x.ensures.here c.take-in-loop-x.ensures.below c.loop-x.invariant.rest in
    let climb = first_climb hills c.loop-x.left c.loop-x.middle c.take-in-loop-x.result.0 c.loop-x.x c.args.y
    c.loop-x.invariant.left c.loop-x.invariant.middle right.0 in
    let none : first_ahead hills.grid.now (climbs (height_at hills)) u all_dirs ≡ None =
    elim c.if-free.branch [
      | then-free+in_default w ↦
          sym climb ∙ ap (with_source u) (sym w.first_steep_from.ensures ∙ w.in_default.is)
      | else-free w ↦ no_climb hills.grid.now (climbs (height_at hills)) u all_dirs
          (λ d. no_move hills.grid.now u d (sym c.free.ensures ∙ w.if-free.false))
    ] in
    record {
      left = λ before b. subst (λ (n : ℕ). IsColumn hills n c.args.y c.loop-x.middle)
          (sym (before_one c.loop-x.x before b)) c.loop-x.invariant.middle;
      middle = right.0;
      rest = right.1;
      first = c.loop-x.invariant.first
          ∙ row_step hills.grid.now (climbs (height_at hills)) c.args.y c.loop-x.x hills.grid.now.width
          (omega arith) ∙ or_second _ _ none;
    }

pub returns-clause-first : goal.returns-clause-first
returns-clause-first c =
    let hills = c.args.self.now in
    sym (c.loop-x.invariant.first
    ∙ row_end hills.grid.now (climbs (height_at hills)) c.args.y c.loop-x.x hills.grid.now.width (omega
    arith))

pub returns-clause-next : goal.returns-clause-next
returns-clause-next c =
    rows_next c.args.self.now c.requires.hills c.args.y (c.loop-x.x + 1) c.args.rows.now c.loop-x.rest _
    (omega arith) c.requires.rows c.loop-x.invariant.rest refl refl refl
