-- What is known at a stop goes on to the call that it is passed to.
use Rattle.std.proofs.Common.{arith}
use Rattle.std.proofs.lemmas.Bool.Decides.{nat_tests}
use Rattle.std.proofs.Common.{◌≡◌, List, ℕ}
use Rattle.std.specs.Prelude.{Result, IsErrAnd, OnOk}
use Rattle.line_work.specs.Sending.{write_stops}
use Rattle.line_work.specs.Stops.{Stops, StopsSo, EndsOrStops}
use Rattle.line_work.specs.declared.stop.Stop.{Stop}

-- what is known at each stop follows from what was known there before
pub record Follow (known later : Stops) : Type 0 where
  pub refused : (line : List ℕ) → known.Refused line → later.Refused line
  pub read : known.Read → later.Read
  pub write : known.Write → later.Write
  pub memory : known.Memory → later.Memory

-- what holds, holds where it is done
pub if_ok : {T E : Type 0} {P : Type 0} (result : Result T E) → P → OnOk result P
if_ok result h = grind (arith, nat_tests)

-- an error that is passed on
pub passed : {X : Type 0} (Done : X → Type 0) (known later : Stops) (result : Result X Stop) (stop : Stop)
    → IsErrAnd result (λ s. s ≡ stop) → StopsSo known stop → Follow known later
    → EndsOrStops Done later result
passed Done known later result stop h i j = grind (arith, nat_tests)

-- what was done, or is known at a stop, says more
pub ends-on : {X : Type 0} (Done Later : X → Type 0) (known later : Stops) (result : Result X Stop)
    → ((x : X) → Done x → Later x) → Follow known later → EndsOrStops Done known result
    → EndsOrStops Later later result
ends-on Done Later known later result h i j = grind (arith, nat_tests)

-- nothing but want of memory
abbrev pub no_stops : Type 0 → Stops
no_stops Memory = record { Refused = λ line. ⊥; Read = ⊥; Write = ⊥; Memory = Memory }

-- the same is known
pub follow-same : (known : Stops) → Follow known known
follow-same known = grind (arith, nat_tests)

-- only memory may have been refused
pub only_memory : {M : Type 0} {later : Stops} → (M → later.Memory) → Follow (no_stops M) later
only_memory f = grind (arith, nat_tests)

-- only a write may have failed
pub only_write : {W : Type 0} {later : Stops} → (W → later.Write) → Follow (write_stops W) later
only_write f = grind (arith, nat_tests)
