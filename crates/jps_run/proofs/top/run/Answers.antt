use Rattle.std.specs.Prelude.{map, string_bytes}
use Rattle.word_list.specs.Request.{called}
use Rattle.jps_run.proofs.Ended.{rightly, call-ends, word-ends}
use Rattle.jps_run.proofs.top.run.Goals as goal

pub returns-in-Err : goal.returns-in-Err
returns-in-Err g c =
    let h = word-ends (map string_bytes c.args.words.now) (g.F.Files.disk c.args.files.now)
    (g.I.Source.inflow c.args.input.now) (g.O.Sink.outflow c.args.out.now) (g.E.Sink.outflow c.args.err.now)
    (g.E.Sink.outflow c.refuse_word.new.err) c.args.steps.now c.in-Err.bad.0 c.refuse_word.result
    c.in-Err.ensures.refused c.refuse_word.ensures.statuses c.refuse_word.ensures.word
    c.refuse_word.ensures.memory in
    record {
      statuses = h.statuses;
      right = rightly h;
      outcome = h.outcome;
      read = h.read;
      write = h.write;
      part = h.part;
      memory = h.memory;
      line = h.line;
      complete = h.complete;
      unchanged = h.unchanged;
      counted = h.counted;
      input_stays = h.input_stays;
    }

pub returns : goal.returns
returns g c =
    let h = call-ends (map string_bytes c.args.words.now) (g.F.Files.disk c.args.files.now)
    (g.F.Files.disk c.answer_call.new.files) (g.I.Source.inflow c.args.input.now)
    (g.I.Source.inflow c.answer_call.new.input) (g.O.Sink.outflow c.args.out.now)
    (g.O.Sink.outflow c.answer_call.new.out) (g.E.Sink.outflow c.args.err.now)
    (g.E.Sink.outflow c.finish.new.err) c.args.steps.now c.answer_call.new.steps
    (called c.in-Ok.call.0 c.in-Ok.call.1) c.in-Ok.ensures.found c.answer_call.ensures.unchanged
    c.answer_call.ensures.input_stays c.answer_call.result c.finish.result c.answer_call.ensures.ended
    c.answer_call.ensures.counted
    c.finish.ensures.status c.finish.ensures.printed in
    record {
      statuses = h.statuses;
      right = rightly h;
      outcome = h.outcome;
      read = h.read;
      write = h.write;
      part = h.part;
      memory = h.memory;
      line = h.line;
      complete = h.complete;
      unchanged = h.unchanged;
      counted = h.counted;
      input_stays = h.input_stays;
    }
