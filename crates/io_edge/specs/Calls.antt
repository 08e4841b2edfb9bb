-- How the calls of an object in memory are kept.
use Rattle.io_edge.specs.Memory.{Pace}
use Rattle.io_edge.specs.declared.memory.calls.Calls.{Calls}

-- the pace that is kept so
abbrev pub pace_of : Calls → Pace
pace_of calls = record {
  piece = calls.piece;
  failing = calls.failing.items;
  made = calls.made;
  faults = calls.faults;
}
