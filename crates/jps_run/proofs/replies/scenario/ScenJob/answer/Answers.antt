use Rattle.std.proofs.Common.{refl, ◌+◌, ◌<◌, ◌^◌, arith}
use Rattle.jps_run.proofs.Rising.{counted-entry}
use Rattle.jps_run.proofs.ScenRows.{rows-more, room-more}
use Rattle.jps_run.proofs.replies.scenario.ScenJob.answer.Goals as goal

pub count-requires : goal.count-requires
count-requires g c = record {
  counts = c.requires.room.1.counts;
  small = c.requires.room.1.small;
  few = (let h : c.args.self.now.tally.rows + (c.requires.room.0 + 1) < 2 ^ 64 = c.requires.room.1.few in
      omega arith);
}

pub row_of-requires-clause-ready : goal.row_of-requires-clause-ready
row_of-requires-clause-ready g c = c.requires.room.1.ready

pub returns-clause-worked : goal.returns-clause-worked
returns-clause-worked g c =
    rows-more c.put_row.result c.args.self.now
    (record { answerer = c.row_of.new.answerer; show = c.args.self.now.show; tally = c.count.new.self })
    c.args.item c.in_ok-row.row c.args.lines.now.items c.put_row.new.out.items c.in_ok-row.ensures.row
    c.row_of.ensures.same refl c.count.ensures.counted c.put_row.ensures

pub returns-clause-room : goal.returns-clause-room
returns-clause-room g c =
    room-more c.put_row.result c.args.self.now
    (record { answerer = c.row_of.new.answerer; show = c.args.self.now.show; tally = c.count.new.self })
    c.in_ok-row.row c.requires.room c.count.ensures.counted c.count.ensures.small c.row_of.ensures.same

pub returns-clause-counted : goal.returns-clause-counted
returns-clause-counted g c =
    counted-entry c.put_row.result c.args.self.now
    (record { answerer = c.row_of.new.answerer; show = c.args.self.now.show; tally = c.count.new.self })
    c.args.item c.args.steps.now c.row_of.new.steps c.row_of.ensures.same c.in_ok-row.ensures.counted
