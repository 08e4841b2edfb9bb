-- How far the work on items has come.
use Rattle.std.specs.Prelude.{◌≡◌, ◌≢◌, ℕ, ◌+◌, ◌≤◌, ◌⊎◌, Bool, true, List, [], ◌++◌, Result}
use Rattle.std.specs.List.{concat}
use Rattle.io_edge.specs.Known.{Outflow}
use Rattle.line_work.specs.Sending.{AreSent, Wrote, work_stops}
use Rattle.line_work.specs.Stops.{EndsOrStops}
use Rattle.line_work.specs.declared.stop.Stop.{Stop}

-- more lines were appended to the bytes, with which the lines stand so
pub record Adds (Stand : List (List ℕ) → Type 0) (lines : List (List ℕ)) (before now : List ℕ) : Type 0 where
  pub more : List (List ℕ)
  pub stand : Stand (lines ++ more)
  pub appended : now ≡ before ++ concat more

-- some more lines make a whole output of the lines, at least one where something is left
pub record Completes (Whole : List (List ℕ) → ℕ → Type 0) (Left : Type 0) (lines : List (List ℕ)) : Type
    0 where
  pub more : List (List ℕ)
  pub status : ℕ
  pub whole : Whole (lines ++ more) status
  pub some : Left → more ≢ []

-- items are left, or the line that closes the output
abbrev pub IsLeft : {Item : Type 0} → Bool → List Item → Type 0
IsLeft closes others = (others ≢ []) ⊎ (closes ≡ true)

-- lines that some items have can be completed, whatever items come behind
abbrev pub CanComplete : {Job Item : Type 0} → (Job → Job → List Item → List (List ℕ) → Type 0)
    → (Job → List Item → List (List ℕ) → ℕ → Type 0) → Bool → Type 0
CanComplete {Job} {Item} Worked Whole closes =
    (first now : Job) (some others : List Item) (lines : List (List ℕ)) → Worked first now some lines
    → Completes (Whole first (some ++ others)) (IsLeft closes others) lines

-- there is room for one thing more
abbrev pub HasRoomForOne : (ℕ → Type 0) → Type 0
HasRoomForOne HasRoom = (n : ℕ) × HasRoom (n + 1)

-- these items were worked; of their lines the first ones were written, and the others wait
pub record IsWorking {Item : Type 0} (Worked : List Item → List (List ℕ) → Type 0) (items : List Item)
    (before now : Outflow) (waiting : List ℕ) : Type 0 where
  pub lines : List (List ℕ)
  pub worked : Worked items lines
  pub sent : AreSent before now waiting lines

-- these items were worked, and all their lines were written
pub record HaveWorked {Job Item : Type 0} (Worked : Job → Job → List Item → List (List ℕ) → Type 0)
    (first now : Job) (items : List Item) (before after : Outflow) : Type 0 where
  pub lines : List (List ℕ)
  pub worked : Worked first now items lines
  pub wrote : Wrote before after (concat lines)
  pub later : before.faults ≤ after.faults

-- some of the items were worked, behind any that were before; of the lines the first ones were written, and
-- the others wait
abbrev pub IsWorkingOn : {Job Item : Type 0} → (Job → Job → List Item → List (List ℕ) → Type 0) → Job → Job
    → List Item → Outflow → Outflow → List ℕ → Type 0
IsWorkingOn {Job} {Item} Worked old new some at now waiting =
    (first : Job) (earlier : List Item) (before : Outflow) → HaveWorked Worked first old earlier before at
    → IsWorking (Worked first new) (earlier ++ some) before now waiting

-- these items were worked too, behind any that were before and whatever others come behind them; or the work
-- stopped
abbrev pub WorksMore : {Job Item : Type 0} → (Job → Job → List Item → List (List ℕ) → Type 0)
    → (Job → List Item → List (List ℕ) → ℕ → Type 0) → Job → Job → List Item → Outflow → Outflow
    → Result (Unit {0}) Stop → Type 0
WorksMore {Job} {Item} Worked Whole old new more at now result =
    (first : Job) (earlier others : List Item) (before : Outflow)
    → HaveWorked Worked first old earlier before at
    → EndsOrStops (λ done. HaveWorked Worked first new (earlier ++ more) before now)
    (work_stops (Whole first (earlier ++ (more ++ others))) before now) result

-- what is counted for items holds with these too, behind any that were before
abbrev pub CountsMore : {Job Item : Type 0} → (Job → Job → List Item → ℕ → ℕ → Type 0) → Job → Job
    → List Item → ℕ → ℕ → Type 0
CountsMore {Job} {Item} Counted old new more at now = (first : Job) (earlier : List Item) (start : ℕ)
    → Counted first old earlier start at → Counted first new (earlier ++ more) start now
