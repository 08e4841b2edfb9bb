use Rattle.std.proofs.Common.{le_refl, subst, List, ℕ}
use Rattle.line_work.specs.Sending.{IsText, SendsWhole}
use Rattle.jps_run.proofs.Performing.{rose-as, sent-as, uncounted}
use Rattle.jps_run.proofs.work.perform.Goals as goal

pub returns-in-Answer : goal.returns-in-Answer
returns-in-Answer g c = record {
  sent = sent-as c.args.work _ (g.O.Sink.outflow c.args.out.now) (g.O.Sink.outflow c.write_answers.new.out)
      c.write_answers.result c.in-Answer.is c.write_answers.ensures.sent;
  counted = rose-as c.write_answers.result c.args.work _ c.args.steps.now c.write_answers.new.steps
      c.in-Answer.is c.write_answers.ensures.counted;
}

pub returns-in-Scen : goal.returns-in-Scen
returns-in-Scen g c = record {
  sent = sent-as c.args.work _ (g.O.Sink.outflow c.args.out.now) (g.O.Sink.outflow c.write_rows.new.out)
      c.write_rows.result c.in-Scen.is c.write_rows.ensures.sent;
  counted = rose-as c.write_rows.result c.args.work _ c.args.steps.now c.write_rows.new.steps c.in-Scen.is
      c.write_rows.ensures.counted;
}

pub returns-in-Lengths : goal.returns-in-Lengths
returns-in-Lengths g c = record {
  sent = sent-as c.args.work _ (g.O.Sink.outflow c.args.out.now) (g.O.Sink.outflow c.write_lengths.new.out)
      c.write_lengths.result c.in-Lengths.is c.write_lengths.ensures;
  counted = uncounted c.write_lengths.result c.args.work _ c.args.steps.now c.write_lengths.new.steps
      c.in-Lengths.is tt;
}

pub returns-in-Judge : goal.returns-in-Judge
returns-in-Judge g c = record {
  sent = sent-as c.args.work _ (g.O.Sink.outflow c.args.out.now) (g.O.Sink.outflow c.write_rulings.new.out)
      c.write_rulings.result c.in-Judge.is c.write_rulings.ensures;
  counted = uncounted c.write_rulings.result c.args.work _ c.args.steps.now c.write_rulings.new.steps
      c.in-Judge.is tt;
}

pub returns-in-Drill : goal.returns-in-Drill
returns-in-Drill g c = record {
  sent = sent-as c.args.work _ (g.O.Sink.outflow c.args.out.now) (g.O.Sink.outflow c.write_sums.new.out)
      c.write_sums.result c.in-Drill.is c.write_sums.ensures.sent;
  counted = rose-as c.write_sums.result c.args.work _ c.args.steps.now c.write_sums.new.steps c.in-Drill.is
      c.write_sums.ensures.counted;
}

pub returns-in-Draw : goal.returns-in-Draw
returns-in-Draw g c = record {
  sent = sent-as c.args.work _ (g.O.Sink.outflow c.args.out.now) (g.O.Sink.outflow c.write_drawing.new.out)
      c.write_drawing.result c.in-Draw.is c.write_drawing.ensures.sent;
  counted = rose-as c.write_drawing.result c.args.work _ c.args.steps.now
      c.write_drawing.new.steps c.in-Draw.is
      c.write_drawing.ensures.counted;
}

pub returns-in-Costs : goal.returns-in-Costs
returns-in-Costs g c = record {
  sent = sent-as c.args.work _ (g.O.Sink.outflow c.args.out.now) (g.O.Sink.outflow c.write_costs.new.out)
      c.write_costs.result c.in-Costs.is c.write_costs.ensures;
  counted = uncounted c.write_costs.result c.args.work _ c.args.steps.now
      c.write_costs.new.steps c.in-Costs.is
      tt;
}

pub returns-in-Tables : goal.returns-in-Tables
returns-in-Tables g c = record {
  sent = sent-as c.args.work _ (g.O.Sink.outflow c.args.out.now) (g.O.Sink.outflow c.write_file.new.out)
      c.write_file.result c.in-Tables.is c.write_file.ensures;
  counted = uncounted c.write_file.result c.args.work _ c.args.steps.now c.args.steps.now c.in-Tables.is tt;
}

pub returns-in-Print : goal.returns-in-Print
returns-in-Print g c = record {
  sent = sent-as c.args.work _ (g.O.Sink.outflow c.args.out.now) (g.O.Sink.outflow c.send_text.new.out)
      c.send_text.result c.in-Print.is
      (subst (λ (t : List ℕ). SendsWhole (IsText t c.in-Print.status) (g.O.Sink.outflow c.args.out.now)
      (g.O.Sink.outflow c.send_text.new.out) c.send_text.result) c.as_slice.ensures.value
      c.send_text.ensures);
  counted = uncounted c.send_text.result c.args.work _ c.args.steps.now c.args.steps.now c.in-Print.is
      (le_refl c.args.steps.now);
}

pub returns-in-Say : goal.returns-in-Say
returns-in-Say g c = record {
  sent = sent-as c.args.work _ (g.O.Sink.outflow c.args.out.now) (g.O.Sink.outflow c.send_text-in-Say.new.out)
      c.send_text-in-Say.result c.in-Say.is c.send_text-in-Say.ensures;
  counted = uncounted c.send_text-in-Say.result c.args.work _ c.args.steps.now
      c.args.steps.now c.in-Say.is tt;
}
