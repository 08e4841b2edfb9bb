use Rattle.std.proofs.Common.{◌≤◌, length, arith}
use Rattle.best_first.proofs.Parts.{blank_reset, parts_blank}
use Rattle.best_first.proofs.Rooms.{no_room}
use Rattle.best_first.proofs.space.Space.new.Goals as goal

pub invariant_of-result : goal.invariant_of-result
invariant_of-result c =
    let few : length c.in_ok-new.field-0.heads.items ≤ 16777216 =
    omega (arith, c.in_ok-new.ensures.as_many, c.requires) in
    record {
      parts = parts_blank _ (blank_reset _ _ c.in_ok-new.ensures.blank) c.new.ensures.nodes
          c.in_ok-new.ensures.records few;
      room = no_room _ _ _ _;
    }
