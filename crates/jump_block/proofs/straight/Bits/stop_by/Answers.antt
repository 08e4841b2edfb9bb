use Rattle.std.proofs.Common.{arith}
use Rattle.std.proofs.lemmas.Bool.Decides.{nat_tests}
use Rattle.jump_block.proofs.straight.Bits.stop_by.Goals as goal

pub returns-in-N : goal.returns-in-N
returns-in-N g c = rw c.in-N.is (record {
  first = λ grid are free. (c.mark.ensures.stops grid are free c.args.goal (grind (arith, nat_tests))).0;
  most = λ n grid are free. (c.mark.ensures.stops grid are free c.args.goal (grind (arith, nat_tests))).1;
  fewest = c.mark.ensures.fewest;
})

pub returns-in-E : goal.returns-in-E
returns-in-E g c = rw c.in-E.is (record {
  first = λ grid are free. (c.mark-in-E.ensures.stops grid are free c.args.goal (grind (arith, nat_tests))).0;
  most = λ n grid are free.
      (c.mark-in-E.ensures.stops grid are free c.args.goal (grind (arith, nat_tests))).1;
  fewest = c.mark-in-E.ensures.fewest;
})

pub returns-in-S : goal.returns-in-S
returns-in-S g c = rw c.in-S.is (record {
  first = λ grid are free. (c.mark-in-S.ensures.stops grid are free c.args.goal (grind (arith, nat_tests))).0;
  most = λ n grid are free.
      (c.mark-in-S.ensures.stops grid are free c.args.goal (grind (arith, nat_tests))).1;
  fewest = c.mark-in-S.ensures.fewest;
})

pub returns-in-W : goal.returns-in-W
returns-in-W g c = rw c.in-W.is (record {
  first = λ grid are free. (c.mark-in-W.ensures.stops grid are free c.args.goal (grind (arith, nat_tests))).0;
  most = λ n grid are free.
      (c.mark-in-W.ensures.stops grid are free c.args.goal (grind (arith, nat_tests))).1;
  fewest = c.mark-in-W.ensures.fewest;
})

pub returns-in-NE : goal.returns-in-NE
returns-in-NE g c = rw c.in-NE.is (record {
  first = c.diagonal_stop.ensures.first;
  most = λ n. absurd (cc);
  fewest = c.diagonal_stop.ensures.fewest;
})

pub returns-in-SE : goal.returns-in-SE
returns-in-SE g c = rw c.in-SE.is (record {
  first = c.diagonal_stop-in-SE.ensures.first;
  most = λ n. absurd (cc);
  fewest = c.diagonal_stop-in-SE.ensures.fewest;
})

pub returns-in-SW : goal.returns-in-SW
returns-in-SW g c = rw c.in-SW.is (record {
  first = c.diagonal_stop-in-SW.ensures.first;
  most = λ n. absurd (cc);
  fewest = c.diagonal_stop-in-SW.ensures.fewest;
})

pub returns-in-NW : goal.returns-in-NW
returns-in-NW g c = rw c.in-NW.is (record {
  first = c.diagonal_stop-in-NW.ensures.first;
  most = λ n. absurd (cc);
  fewest = c.diagonal_stop-in-NW.ensures.fewest;
})
