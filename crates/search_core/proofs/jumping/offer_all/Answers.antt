use Rattle.std.proofs.lemmas.Bool.Decides.{nat_tests}
use Rattle.std.proofs.lemmas.Grind.{common_steps}
use Rattle.std.proofs.Common.{arith, refl}
use Rattle.search_core.proofs.Serving.{at_one, at_next, at_last}
use Rattle.search_core.proofs.jumping.offer_all.Goals as goal

pub jumps-init : goal.jumps-init
jumps-init g c = record {
  so_far = record {
    offering = c.requires.offering;
    allowed = c.requires.allowed;
    jumped = λ x v. refl;
    room = c.requires.room;
    within = λ end w. w;
  };
  shape = record { layout = refl; places = refl; width = refl };
  fewest = omega arith;
}

pub offer_jump-requires-clause-offering : goal.offer_jump-requires-clause-offering
offer_jump-requires-clause-offering g c = c.jumps.invariant.so_far.offering

pub offer_jump-requires-clause-allowed : goal.offer_jump-requires-clause-allowed
offer_jump-requires-clause-allowed g c = λ x served.
    ((at_one c.jumps.invariant.so_far c.in-Some.ensures.some).allowed x served).0

pub offer_jump-requires-clause-room : goal.offer_jump-requires-clause-room
offer_jump-requires-clause-room g c =
    let room = (at_one c.jumps.invariant.so_far c.in-Some.ensures.some).room in omega (arith, room)

pub jumps-preserved : goal.jumps-preserved
jumps-preserved g c = record {
  so_far = at_next (at_one c.jumps.invariant.so_far c.in-Some.ensures.some) c.offer_jump.ensures.jumped
      c.offer_jump.ensures.shape c.offer_jump.ensures.spare c.offer_jump.ensures.most;
  shape = grind (arith, nat_tests, common_steps);
  fewest = let n = c.jumps.invariant.fewest in let m = c.offer_jump.ensures.fewest in omega (arith, n, m);
}

pub returns-clause-jumped : goal.returns-clause-jumped
returns-clause-jumped g c = (at_last c.jumps.invariant.so_far c.in_default.ensures.none).0

pub returns-clause-most : goal.returns-clause-most
returns-clause-most g c = (at_last c.jumps.invariant.so_far c.in_default.ensures.none).1
