use Rattle.std.proofs.Common.{refl}
use Rattle.scen_maker.proofs.Listed.{listed-more}
use Rattle.scen_maker.proofs.lengths.LengthsJob.answer.Goals as goal

pub returns-clause-worked : goal.returns-clause-worked
returns-clause-worked g c =
    listed-more c.put_listed.result c.args.self.now
    (record { costs = c.settle.new.self; text = c.args.self.now.text; all = c.are_some-self.result })
    c.args.item c.in_ok-settle.field-0 c.least-least.result c.as_slice.result.now c.args.lines.now.items
    c.put_listed.new.out.items c.in_ok-settle.ensures.settled c.least-least.ensures c.as_slice.ensures.value
    c.settle.ensures.unchanged refl c.are_some-self.ensures c.put_listed.ensures
