use Rattle.std.proofs.Common.{◌*◌, ◌/◌, arith, sym, ◌∙◌}
use Rattle.grid_moves.specs.declared.Corner.{Corner}
use Rattle.jump_block.specs.declared.word.Way.{Way}
use Rattle.jump_block.specs.Trail.{IsClear, begun, trail_on}
use Rattle.jump_block.specs.Word.{far, moves_before}
use Rattle.jump_block.specs.Source.{StopsAt}
use Rattle.jump_block.proofs.Around.{found_some}
use Rattle.jump_block.proofs.Scans.{few_found, on_same}
use Rattle.jump_block.proofs.marks.first_mark.Goals as goal

pub stop_of-requires : goal.stop_of-requires
stop_of-requires g c =
    let free = c.requires.starts.0 in
    let start = c.requires.starts.1 in
    record {
      few = few_found start c.way_of.result c.rule_of_number-rule.result 0
          c.halt_first-found.result
          (found_some _ _ c.halt_first-found.result (sym c.is_some.ensures ∙ c.if-is_some.true)
          (c.halt_first-found.ensures.halts (trail_on free c.way_of.result c.args.line c.args.place)
          (c.read-block.ensures.shown start.count start.positions free start.shows c.way_of.result
          c.args.place)));
    }

pub returns-then-is_some-clause-stops : goal.returns-then-is_some-clause-stops
returns-then-is_some-clause-stops g c = λ free start.
    on_same (λ (w : Way) (r : Corner). StopsAt r (begun r (trail_on free w c.args.line c.args.place)) 0
    c.args.steps.now c.read-block.new.steps c.stop_of.result) c.way_of.ensures c.rule_of_number-rule.ensures (
      c.halt_first-found.result,
      found_some _ _ c.halt_first-found.result (sym c.is_some.ensures ∙ c.if-is_some.true)
          (c.halt_first-found.ensures.halts (trail_on free c.way_of.result c.args.line c.args.place)
          (c.read-block.ensures.shown start.count start.positions free start.shows c.way_of.result
          c.args.place)),
      c.stop_of.ensures,
      (let read = c.read-block.ensures.three_steps in omega (arith, read)),
    )

pub mark_past-requires-clause-block : goal.mark_past-requires-clause-block
mark_past-requires-clause-block g c = λ free start.
    c.read-block.ensures.shown start.count start.positions free start.shows _ c.args.place

pub mark_past-requires-clause-clear : goal.mark_past-requires-clause-clear
mark_past-requires-clause-clear g c = λ free start.
    on_same (λ (w : Way) (r : Corner). IsClear (begun r (trail_on free w c.args.line c.args.place))
    (moves_before w c.args.place (far w (c.args.place / 64 * 64))))
    c.way_of.ensures c.rule_of_number-rule.ensures
    (c.halt_first-found.ensures.clear (sym c.is_some.ensures ∙ c.if-is_some.false)
    (trail_on free c.way_of.result c.args.line c.args.place)
    (c.read-block.ensures.shown start.count start.positions free start.shows c.way_of.result c.args.place))

pub returns-clause-stops : goal.returns-clause-stops
returns-clause-stops g c = λ free start.
    let read = c.read-block.ensures.three_steps in
    let its = c.mark_past.ensures.stops free start in
    (its.0, its.1, its.2, (let most = its.3 in omega (arith, most, read)))
