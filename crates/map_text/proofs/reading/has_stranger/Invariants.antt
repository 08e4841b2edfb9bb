use Rattle.std.proofs.Common.{◌≡◌, not, take}
use Rattle.std.specs.List.{list_any}
use Rattle.map_text.specs.Map.{is_terrain}
use Rattle.map_text.proofs.reading.has_stranger.Given as goal

-- whether a byte behind is no terrain
abbrev pub invariant-loop-byte : goal.invariant-loop-byte
invariant-loop-byte l = l.found ≡ list_any (λ byte. not (is_terrain byte)) (take l.byte-index l.row)
