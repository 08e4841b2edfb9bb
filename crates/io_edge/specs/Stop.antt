-- Why a whole file wasn't read.
use Rattle.std.specs.Prelude.{ℕ, ⊤}
use Rattle.io_edge.specs.Known.{Held}
use Rattle.io_edge.specs.Whole.{IsLonger}
use Rattle.io_edge.specs.declared.whole.ReadStop.{ReadStop}
use Rattle.io_edge.specs.declared.whole.ReadStop.TheVariants.{Fault, TooLong, NoMemory}

-- a stop for which no read has to fail: more bytes than the limit are held, or memory is refused
abbrev pub IsOtherStop : Held → ℕ → ReadStop → Type 0
IsOtherStop held limit Fault = ⊥
IsOtherStop held limit TooLong = IsLonger held limit
IsOtherStop held limit NoMemory = ⊤
