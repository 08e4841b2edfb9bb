-- Each line taken is one line more in which walks begin.
use Rattle.std.proofs.Common.{arith, sym, ◌∙◌}
use Rattle.table_repair.specs.Lines.{lines_rise}
use Rattle.table_repair.proofs.Sweeping.{taken_is, none_taken}
use Rattle.table_repair.proofs.Abreast.{abreast_ends, enter_ends, enter_none}
use Rattle.table_repair.proofs.Entering.{past_none, line_low, enter_right, enter_past, enter_line, none_left}
use Rattle.table_repair.proofs.Totals.{later_on, few_entered, counted_entered}
use Rattle.table_repair.proofs.sweep.sweep_lines.Goals as goal

pub loop-line-init : goal.loop-line-init
loop-line-init g c = record {
  abreast = enter_none c.requires.ready c.requires.none;
  past = past_none (lines_rise c.args.d) c.args.lines c.args.d c.args.walks.now.items c.requires.none;
  within = λ k h. h;
  short = rw c.requires.none (omega arith);
  few = omega arith;
  counted = rw c.requires.none (omega arith);
  later = omega arith;
}

pub enter_line-changed-requires-clause-standing : goal.enter_line-changed-requires-clause-standing
enter_line-changed-requires-clause-standing g c = c.loop-line.invariant.abreast.standing

pub enter_line-changed-requires-clause-short : goal.enter_line-changed-requires-clause-short
enter_line-changed-requires-clause-short g c = c.loop-line.invariant.short

pub enter_line-changed-requires-clause-line : goal.enter_line-changed-requires-clause-line
enter_line-changed-requires-clause-line g c =
    let i = c.loop-line.invariant in
    let taken = taken_is c.lines_rise.ensures c.loop-line.left c.in-Some.is c.take_far.ensures.taken
    c.take_far.ensures.rest in
    line_low c.args.lines c.args.places i.abreast i.past i.within taken c.requires.lines

pub enter_line-changed-requires-clause-line_right : goal.enter_line-changed-requires-clause-line_right
enter_line-changed-requires-clause-line_right g c =
    let i = c.loop-line.invariant in
    let taken = taken_is c.lines_rise.ensures c.loop-line.left c.in-Some.is c.take_far.ensures.taken
    c.take_far.ensures.rest in
    enter_right c.args.lines c.args.places i.abreast i.past i.within taken c.requires.lines c.requires.places
    c.requires.waits

pub loop-line-preserved : goal.loop-line-preserved
loop-line-preserved g c =
    let i = c.loop-line.invariant in
    let taken = taken_is c.lines_rise.ensures c.loop-line.left c.in-Some.is c.take_far.ensures.taken
    c.take_far.ensures.rest in
    record {
      abreast = enter_line c.args.lines c.args.places i.abreast i.past i.within taken c.requires.lines
          c.requires.places c.requires.waits c.enter_line-changed.ensures.abreast;
      past = λ w k. enter_past c.args.lines c.args.places i.abreast i.past i.within taken w
          (c.enter_line-changed.ensures.behind w k);
      within = λ k h. i.within k (taken.within k h);
      short = c.enter_line-changed.ensures.short;
      few = few_entered _ _ _ _ _ taken.shorter i.few c.enter_line-changed.ensures.few;
      counted = counted_entered _ _ _ _ _ _ _ _ _ _ _ taken.shorter i.counted
          c.enter_line-changed.ensures.steps;
      later = later_on i.later c.enter_line-changed.ensures.later;
    }

pub lead_out-requires-clause-standing : goal.lead_out-requires-clause-standing
lead_out-requires-clause-standing g c = c.loop-line.invariant.abreast.standing

pub lead_out-requires-clause-short : goal.lead_out-requires-clause-short
lead_out-requires-clause-short g c = let short = c.loop-line.invariant.short in omega arith

pub returns-clause-mends : goal.returns-clause-mends
returns-clause-mends g c =
    let none = none_left c.args.d c.loop-line.left c.args.places
    (none_taken c.lines_rise.result c.loop-line.left (sym c.take_far.ensures.taken ∙ c.in_default.is)) in
    (enter_ends c.loop-line.invariant.abreast none c.lead_out.ensures.abreast).mends

pub returns-clause-sweeps : goal.returns-clause-sweeps
returns-clause-sweeps g c =
    let none = none_left c.args.d c.loop-line.left c.args.places
    (none_taken c.lines_rise.result c.loop-line.left (sym c.take_far.ensures.taken ∙ c.in_default.is)) in
    abreast_ends (enter_ends c.loop-line.invariant.abreast none c.lead_out.ensures.abreast)
    c.lead_out.ensures.none

pub returns-clause-none : goal.returns-clause-none
returns-clause-none g c = c.lead_out.ensures.none

pub returns-clause-few : goal.returns-clause-few
returns-clause-few g c = grind arith
