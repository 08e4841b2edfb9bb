use Rattle.std.proofs.Common.{◌≡◌, drop}
use Rattle.io_edge.specs.Memory.{file_under}
use Rattle.io_edge.specs.Named.{named_bytes}
use Rattle.io_edge.proofs.memory.parts.bytes_under.Given as goal

-- the name is looked for behind the files seen
abbrev pub invariant-loop-own : goal.invariant-loop-own
invariant-loop-own l =
    file_under (named_bytes l.files) l.name ≡ file_under (named_bytes (drop l.own-index l.files)) l.name
