use Rattle.std.proofs.Common.{◌≡◌, ◌-◌, arith, length, take, drop}
use Rattle.std.proofs.lemmas.Grind.{common_steps}
use Rattle.io_edge.proofs.Writing.{Appends-more}
use Rattle.io_edge.proofs.whole.write_whole.Goals as goal

pub loop-count-preserved : goal.loop-count-preserved
loop-count-preserved g c =
    let bytes = c.args.bytes.now in
    let count = c.loop-count.count in
    let rest : take (length bytes - count) (drop count bytes) ≡ drop count bytes =
    grind (arith, common_steps) in
    let back = rw rest at c.in-Ok.ensures.bytes in
    record {
      below = grind (arith, common_steps, c.in-Ok.ensures.bound);
      front = Appends-more _ _ _ bytes count c.in-Ok.more c.loop-count.invariant.front back;
      later = omega (arith, c.in-Ok.ensures.cause.later);
    }
