use Rattle.std.proofs.Common.{◌+◌, ◌*◌, ◌/◌, arith, sym, ◌∙◌}
use Rattle.grid_moves.specs.declared.Corner.{Corner}
use Rattle.jump_block.specs.declared.word.Way.{Way}
use Rattle.jump_block.specs.Trail.{IsClear, begun, trail_on}
use Rattle.jump_block.specs.Scan.{MeetsMark, looked}
use Rattle.jump_block.specs.Word.{far, moves_before}
use Rattle.jump_block.proofs.Around.{found_some}
use Rattle.jump_block.proofs.Scans.{on_same, stop_met}
use Rattle.jump_block.proofs.marks.finds_next.Goals as goal

pub returns-then-is_some-clause-finds : goal.returns-then-is_some-clause-finds
returns-then-is_some-clause-finds g c = λ free start.
    let place = c.args.place in
    let most = c.halt_next-found.ensures.most in
    on_same (λ (w : Way) (r : Corner). MeetsMark r (begun r (trail_on free w c.args.line place))
    (c.args.steps.now + 3) c.halt_next-found.new.steps c.is_mark.result)
    c.way_of.ensures (c.rule_of_number.ensures ∙ sym c.requires.rule) (
      looked 0 c.halt_next-found.result,
      c.is_mark.ensures _ _ (found_some _ _ c.halt_next-found.result
          (sym c.is_some.ensures ∙ c.if-is_some.true) (c.halt_next-found.ensures.halts free start
          (c.requires.near free start)
          (on_same (λ (w : Way) (r : Corner). IsClear (begun r (trail_on free w c.args.line place))
          (moves_before w place (far w (place / 64 * 64))))
          (sym c.way_of.ensures) (c.requires.rule ∙ sym c.rule_of_number.ensures)
          (c.requires.clear free start)))),
      omega (arith, most),
    )

pub mark_past-requires-clause-block : goal.mark_past-requires-clause-block
mark_past-requires-clause-block g c = λ free start.
    c.read-block.ensures.shown start.count start.positions free start.shows _ c.args.place

pub mark_past-requires-clause-clear : goal.mark_past-requires-clause-clear
mark_past-requires-clause-clear g c = λ free start. rw c.requires.rule at (c.requires.clear free start)

pub returns-clause-finds : goal.returns-clause-finds
returns-clause-finds g c = λ free start.
    let most = c.halt_next-found.ensures.most in
    let read = c.read-block.ensures.three_steps in
    let met = stop_met _ _ _ _ _ (c.mark_past.ensures.stops free start) in
    let far = met.2 in
    rw (c.requires.rule, c.is_some-2.ensures) (met.0, met.1, omega (arith, most, read, far))
