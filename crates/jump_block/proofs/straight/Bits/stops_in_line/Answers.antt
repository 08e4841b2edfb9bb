use Rattle.std.proofs.Common.{◌∙◌, ap, sym, arith}
use Rattle.std.specs.Prelude.{Option, is_some}
use Rattle.std.proofs.Common.{ℕ}
use Rattle.grid_moves.specs.Move.{is_same}
use Rattle.pruning.specs.Marked.{is_forced}
use Rattle.pruning.specs.First.{first_stop}
use Rattle.jump_block.specs.declared.straight.Axis.TheVariants.{Row, Column}
use Rattle.jump_block.specs.declared.word.Way.{Way}
use Rattle.jump_block.specs.Source.{dir_on, part_on}
use Rattle.jump_block.proofs.Aside.{stops-first, stops-second, stops-third, stops-fourth}
use Rattle.jump_block.proofs.straight.Bits.stops_in_line.Goals as goal

pub returns-then-eq : goal.returns-then-eq
returns-then-eq g c = record {
  stops = λ grid are free. stops-first _ _ _ _ (sym c.eq.ensures ∙ c.if-eq.true);
  more = omega arith;
}

pub returns-then-forces : goal.returns-then-forces
returns-then-forces g c = record {
  stops = λ grid are free. stops-second _ _ _ _
      (sym (c.forces.ensures.forces grid are free) ∙ c.if-forces.true);
  more = c.forces.ensures.more;
}

pub returns-then-is_some : goal.returns-then-is_some
returns-then-is_some g c = record {
  stops = λ grid are free.
      let row = ap (λ (o : Option ℕ). is_some o) ((c.straight-on_row.ensures.stops grid are free).0
      ∙ ap (λ (w : Way). first_stop grid c.args.goal c.args.at (dir_on Row w)) c.way_on-way.ensures) in
      stops-third (is_same c.args.at c.args.goal) (is_forced grid c.args.at c.args.d)
      (is_some (first_stop grid c.args.goal c.args.at (part_on Row c.args.d)))
      (is_some (first_stop grid c.args.goal c.args.at (part_on Column c.args.d)))
      (sym row ∙ sym c.is_some.ensures ∙ c.if-is_some.true);
  more = omega (arith, c.forces.ensures.more, c.straight-on_row.ensures.fewest);
}

pub returns : goal.returns
returns g c = record {
  stops = λ grid are free.
      let row = ap (λ (o : Option ℕ). is_some o) ((c.straight-on_row.ensures.stops grid are free).0
      ∙ ap (λ (w : Way). first_stop grid c.args.goal c.args.at (dir_on Row w)) c.way_on-way.ensures) in
      let column = ap (λ (o : Option ℕ). is_some o) ((c.straight-on_column.ensures.stops grid are free).0
      ∙ ap (λ (w : Way). first_stop grid c.args.goal c.args.at (dir_on Column w)) c.way_on-way-2.ensures) in
      stops-fourth (is_same c.args.at c.args.goal) (is_forced grid c.args.at c.args.d)
      (is_some (first_stop grid c.args.goal c.args.at (part_on Row c.args.d)))
      (is_some (first_stop grid c.args.goal c.args.at (part_on Column c.args.d)))
      _ (sym c.eq.ensures ∙ c.if-eq.false)
      (sym (c.forces.ensures.forces grid are free) ∙ c.if-forces.false)
      (sym row ∙ sym c.is_some.ensures ∙ c.if-is_some.false) (c.is_some-2.ensures ∙ column);
  more = omega (
    arith,
    c.forces.ensures.more,
    c.straight-on_row.ensures.fewest,
    c.straight-on_column.ensures.fewest,
  );
}
