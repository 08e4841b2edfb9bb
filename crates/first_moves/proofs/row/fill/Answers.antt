use Rattle.first_moves.specs.First.{first_in}
use Rattle.first_moves.proofs.Cutting.{byte_more}
use Rattle.first_moves.proofs.row.fill.Goals as goal

pub loop-i-preserved : goal.loop-i-preserved
loop-i-preserved c =
    let more = byte_more _ c.loop-i.runs.items c.go_on.new.runs.items c.in-Some.others.now c.loop-i.i
    (first_in c.loop-i.before) c.loop-i-test.true c.loop-i.invariant.whole c.loop-i.invariant.few
    c.in_ok-go_on.ensures in
    record { whole = more.0; few = more.1 }
