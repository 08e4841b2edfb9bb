-- Why the work on a request stops.
use Rattle.std.specs.Prelude.{ℕ, List, Result, Ok, Err}
use Rattle.line_work.specs.declared.stop.Stop.{Stop}
use Rattle.line_work.specs.declared.stop.Stop.TheVariants as stop

-- what is known at each stop: where a text is refused with a line, a read failed, a write failed, memory was
-- refused
pub record Stops : Type 1 where
  pub Refused : List ℕ → Type 0
  pub Read : Type 0
  pub Write : Type 0
  pub Memory : Type 0

-- this is known at the stop
abbrev pub StopsSo : Stops → Stop → Type 0
StopsSo known (stop.Text line) = known.Refused line.items
StopsSo known stop.Read = known.Read
StopsSo known stop.Write = known.Write
StopsSo known stop.Memory = known.Memory

-- a call came to its end, or it stopped
abbrev pub EndsOrStops : {X : Type 0} → (X → Type 0) → Stops → Result X Stop → Type 0
EndsOrStops Done known (Ok x) = Done x
EndsOrStops Done known (Err stop) = StopsSo known stop
