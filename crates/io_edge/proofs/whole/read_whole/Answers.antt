use Rattle.std.proofs.Common.{arith, ◌∙◌, rules, refl}
use Rattle.std.proofs.lemmas.Grind.{common_steps}
use Rattle.io_edge.proofs.Reading.{HasRead-more}
use Rattle.io_edge.proofs.whole.read_whole.Goals as goal

pub loop-filled-preserved : goal.loop-filled-preserved
loop-filled-preserved g c =
    let kept = c.in-Ok.ensures.kept ∙ c.make_room.ensures.kept in
    let part = rw c.loop-filled.invariant.unchanged at c.in-Ok.ensures.bytes in
    record {
      one_more = refl;
      below = grind (arith, common_steps, c.in-Ok.ensures.bound, c.make_room.ensures.within);
      inside = grind (arith, common_steps, c.in-Ok.ensures.bound, c.in-Ok.ensures.room);
      within = grind (arith, common_steps, c.in-Ok.ensures.room, c.make_room.ensures.within);
      read = HasRead-more _ _ c.in-Ok.count _ _ c.loop-filled.invariant.read kept part;
      unchanged = c.in-Ok.ensures.unchanged ∙ c.loop-filled.invariant.unchanged;
      later = search rules;
    }
