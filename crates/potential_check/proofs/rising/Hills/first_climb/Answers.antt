use Rattle.std.proofs.Common.{◌≡◌, ◌-◌, ◌∙◌, ap, sym, arith}
use Rattle.potential_check.specs.Moves.{first_in_rows}
use Rattle.potential_check.specs.Rising.{climbs, height_at}
use Rattle.potential_check.proofs.Climbing.{or_first, or_second, rows_end, rows_step}
use Rattle.potential_check.proofs.rising.Hills.first_climb.Goals as goal

pub loop-y-init : goal.loop-y-init
loop-y-init c = record {
  rows = c.first_rows-rows.ensures;
  first = let all : c.args.self.now.grid.now.height ≡ c.args.self.now.grid.now.height - 0 = omega arith in
      ap (λ n. first_in_rows c.args.self.now.grid.now (climbs (height_at c.args.self.now)) 0 n) all;
}

pub returns-in-Some : goal.returns-in-Some
returns-in-Some c =
    let hills = c.args.self.now in
    sym (c.loop-y.invariant.first
    ∙ rows_step hills.grid.now (climbs (height_at hills)) c.loop-y.y hills.grid.now.height (omega arith)
    ∙ or_first _ _ c.in-Some.found (sym c.first_in_row.ensures.first ∙ c.in-Some.is))

pub loop-y-preserved : goal.loop-y-preserved
loop-y-preserved c =
    let hills = c.args.self.now in
    record {
      rows = c.in_default.ensures.next;
      first = c.loop-y.invariant.first
          ∙ rows_step hills.grid.now (climbs (height_at hills)) c.loop-y.y hills.grid.now.height (omega arith)
          ∙ or_second _ _ (sym c.first_in_row.ensures.first ∙ c.in_default.is);
    }

pub returns : goal.returns
returns c =
    let hills = c.args.self.now in
    sym (c.loop-y.invariant.first
    ∙ rows_end hills.grid.now (climbs (height_at hills)) c.loop-y.y hills.grid.now.height (omega arith))
