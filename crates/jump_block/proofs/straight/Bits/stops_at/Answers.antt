use Rattle.std.proofs.Common.{◌∙◌, sym, arith}
use Rattle.std.specs.Prelude.{is_some}
use Rattle.grid_moves.specs.Move.{is_same}
use Rattle.pruning.specs.First.{first_stop}
use Rattle.pruning.specs.Marked.{is_forced}
use Rattle.jump_block.specs.declared.straight.Axis.TheVariants.{Row, Column}
use Rattle.jump_block.specs.Source.{part_on}
use Rattle.jump_block.proofs.Aside.{component_found, stops-second, stops-third, stops-fourth}
use Rattle.jump_block.proofs.straight.Bits.stops_at.Goals as goal

pub returns-then-may_meet : goal.returns-then-may_meet
returns-then-may_meet g c = c.stops_in_line.ensures

pub returns-then-forces : goal.returns-then-forces
returns-then-forces g c = record {
  stops = λ grid are free. stops-second _ _ _ _
      (sym (c.forces.ensures.forces grid are free) ∙ c.if-forces.true);
  more = c.forces.ensures.more;
}

pub returns-then-finds_mark : goal.returns-then-finds_mark
returns-then-finds_mark g c = record {
  stops = λ grid are free.
      let aside = c.may_meet.ensures.aside c.if-may_meet.false in
      let row = component_found grid c.args.goal c.args.at c.args.d Row _ c.way_on.ensures _ _ _
      (c.finds_mark.ensures.finds grid are free) aside in
      stops-third (is_same c.args.at c.args.goal) (is_forced grid c.args.at c.args.d)
      (is_some (first_stop grid c.args.goal c.args.at (part_on Row c.args.d)))
      (is_some (first_stop grid c.args.goal c.args.at (part_on Column c.args.d)))
      (sym row ∙ c.if-finds_mark.true);
  more = omega (arith, c.forces.ensures.more, c.finds_mark.ensures.more);
}

pub returns : goal.returns
returns g c = record {
  stops = λ grid are free.
      let aside = c.may_meet.ensures.aside c.if-may_meet.false in
      let row = component_found grid c.args.goal c.args.at c.args.d Row _ c.way_on.ensures _ _ _
      (c.finds_mark.ensures.finds grid are free) aside in
      let column = component_found grid c.args.goal c.args.at c.args.d Column _ c.way_on-2.ensures _ _ _
      (c.finds_mark-2.ensures.finds grid are free) aside in
      stops-fourth (is_same c.args.at c.args.goal) (is_forced grid c.args.at c.args.d)
      (is_some (first_stop grid c.args.goal c.args.at (part_on Row c.args.d)))
      (is_some (first_stop grid c.args.goal c.args.at (part_on Column c.args.d)))
      _ aside.apart (sym (c.forces.ensures.forces grid are free) ∙ c.if-forces.false)
      (sym row ∙ c.if-finds_mark.false) column;
  more = omega (
    arith,
    c.forces.ensures.more,
    c.finds_mark.ensures.more,
    c.near-beside.ensures.three_steps,
    c.finds_mark-2.ensures.more,
  );
}
