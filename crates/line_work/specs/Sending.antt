-- Lines that go out in pieces.
use Rattle.std.specs.Prelude.{◌≡◌, ℕ, ◌≤◌, ◌<◌, ◌⊎◌, List, [], ◌∷◌, ◌++◌, length, take, Result}
use Rattle.std.specs.List.{concat}
use Rattle.std.specs.Io.KnownBytes.{Appends}
use Rattle.io_edge.specs.Causes.{Rose}
use Rattle.io_edge.specs.Whole.{AppendsSome}
use Rattle.io_edge.specs.Known.{Outflow}
use Rattle.line_work.specs.Stops.{Stops, EndsOrStops}
use Rattle.line_work.specs.declared.stop.Stop.{Stop}

-- all these bytes were written
abbrev pub Wrote : Outflow → Outflow → List ℕ → Type 0
Wrote before now bytes = Appends before.written now.written bytes

-- a write failed, as its count shows, and a first part of these bytes was written
abbrev pub WroteSome : Outflow → Outflow → List ℕ → Type 0
WroteSome before now bytes = Rose before.faults now.faults × AppendsSome before.written now.written bytes

-- a write alone may stop, and then this is known
abbrev pub write_stops : Type 0 → Stops
write_stops Write = record { Refused = λ line. ⊥; Read = ⊥; Write = Write; Memory = ⊥ }

-- the bytes were written, or a first part of them
abbrev pub Sends : Outflow → Outflow → List ℕ → Result (Unit {0}) Stop → Type 0
Sends before now bytes result =
    EndsOrStops (λ done. Wrote before now bytes) (write_stops (WroteSome before now bytes)) result

-- what waited was written whole, or waits on
abbrev pub SendsFull : Outflow → Outflow → List ℕ → List ℕ → Result (Unit {0}) Stop → Type 0
SendsFull before now waiting waiting_now result = EndsOrStops
    (λ done. (Wrote before now waiting × (waiting_now ≡ []))
    ⊎ (Wrote before now [] × (waiting_now ≡ waiting)))
    (write_stops (WroteSome before now waiting)) result

-- of these lines the first ones were written, and the others wait
pub record AreSent (before now : Outflow) (waiting : List ℕ) (lines : List (List ℕ)) : Type 0 where
  pub written : List (List ℕ)
  pub others : List (List ℕ)
  pub all : lines ≡ written ++ others
  pub wrote : Wrote before now (concat written)
  pub wait : waiting ≡ concat others
  pub later : before.faults ≤ now.faults

-- a first part of a whole output was written
pub record IsPart (Whole : List (List ℕ) → ℕ → Type 0) (before now : Outflow) : Type 0 where
  pub lines : List (List ℕ)
  pub status : ℕ
  pub whole : Whole lines status
  pub wrote : AppendsSome before.written now.written (concat lines)

-- the first lines of a whole output were written, so many, and not all of them
pub record AreLines (Whole : List (List ℕ) → ℕ → Type 0) (before now : Outflow) : Type 0 where
  pub lines : List (List ℕ)
  pub status : ℕ
  pub whole : Whole lines status
  pub count : ℕ
  pub short : count < length lines
  pub wrote : Wrote before now (concat (take count lines))

-- the whole output with this status was written
pub record IsAll (Whole : List (List ℕ) → ℕ → Type 0) (before now : Outflow) (status : ℕ) : Type 0 where
  pub lines : List (List ℕ)
  pub whole : Whole lines status
  pub wrote : Wrote before now (concat lines)

-- what is known where an output stops: a write failed and a first part of it was written, or memory was
-- refused and the first lines were, but not all
abbrev pub work_stops : (List (List ℕ) → ℕ → Type 0) → Outflow → Outflow → Stops
work_stops Whole before now = record {
  Refused = λ line. ⊥;
  Read = ⊥;
  Write = Rose before.faults now.faults × IsPart Whole before now;
  Memory = AreLines Whole before now;
}

-- a whole output was written, or it stops
abbrev pub SendsWhole : (List (List ℕ) → ℕ → Type 0) → Outflow → Outflow → Result ℕ Stop → Type 0
SendsWhole Whole before now result = EndsOrStops (IsAll Whole before now) (work_stops Whole before now) result

-- a line stands before a whole output
pub record HasHead (head : List ℕ) (Whole : List (List ℕ) → ℕ → Type 0) (lines : List (List ℕ))
    (status : ℕ) : Type 0 where
  pub below : List (List ℕ)
  pub whole : Whole below status
  pub all : lines ≡ head ∷ below

-- the whole output is this text, with this status
abbrev pub IsText : List ℕ → ℕ → List (List ℕ) → ℕ → Type 0
IsText text status lines is = (lines ≡ text ∷ []) × (is ≡ status)
