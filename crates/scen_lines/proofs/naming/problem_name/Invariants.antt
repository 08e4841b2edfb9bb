use Rattle.std.proofs.Common.{◌≡◌, take, map}
use Rattle.scen_lines.specs.Naming.{name_byte}
use Rattle.scen_lines.proofs.naming.problem_name.Given as goal

-- the bytes so far are those of the part before
abbrev pub invariant-loop-byte : goal.invariant-loop-byte
invariant-loop-byte l = l.name.items ≡ map name_byte (take l.byte-index l.part)
