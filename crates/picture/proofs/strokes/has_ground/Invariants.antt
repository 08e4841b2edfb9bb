use Rattle.std.proofs.Common.{◌≡◌, take}
use Rattle.std.specs.List.{list_any}
use Rattle.picture.specs.Grounds.{is_of}
use Rattle.picture.proofs.strokes.has_ground.Given as goal

abbrev pub invariant-loop-byte : goal.invariant-loop-byte
invariant-loop-byte l = l.found ≡ list_any (is_of l.fn.kind) (take l.byte-index l.row)
