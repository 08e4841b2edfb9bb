-- What texts are read as, line by line, and how an answer tells it.
use Rattle.std.specs.Prelude.{◌≡◌, ◌≢◌, ℕ, ◌<◌, ◌⊎◌, List, [], ◌∷◌, ◌++◌, slice_get, Option, Some, None}
use Rattle.std.specs.Prelude.{Result, Ok, Err, IfOk, IfErr}
use Rattle.std.specs.Option.{option_and_then, option_or}

-- the fault of an answer, if it is one
abbrev pub fault_in : {V F : Type 0} → Result V F → Option F
fault_in (Ok value) = None
fault_in (Err fault) = Some fault

-- a fault where there is one, else the value
abbrev pub reading : {V F : Type 0} → Option F → V → Result V F
reading None value = Ok value
reading (Some fault) value = Err fault

-- the first place, from 0, that has a fault is one with this fault
pub record BreaksFirst {F : Type 0} (fault_at : ℕ → Option F) (fault : F) : Type 0 where
  pub place : ℕ
  pub breaks : fault_at place ≡ Some fault
  pub before : (k : ℕ) → k < place → fault_at k ≡ None

-- an answer tells what a text is read as; one for want of memory, for which `memory` stands, tells nothing
abbrev pub Tells : {A V F : Type 0} → F → (A → V) → Result A F → Result V F → Type 0
Tells memory view (Ok answer) read = read ≡ Ok (view answer)
Tells memory view (Err fault) read = fault ≢ memory → read ≡ Err fault

-- what a reader promises of its answer for a text, given what the text spells, how it breaks its grammar
-- first, and what it is read as
pub record IsRightReading {A V F : Type 0} (memory : F) (view : A → V) (Spells : V → Type 0)
    (Breaks : F → Type 0)
    (read : Result V F) (answer : Result A F) : Type 0 where
  -- what is read is spelled so
  pub found : IfOk answer (λ value. Spells (view value))
  -- what is spelled so is read, unless memory runs out
  pub only : (spelled : V) → Spells spelled → Tells memory view answer (Ok spelled)
  -- a fault is that of the first line that breaks the grammar
  pub first : IfErr answer (λ fault. fault ≢ memory → Breaks fault)
  -- where a line breaks it first, its fault is answered, unless memory runs out
  pub broken : (fault : F) → Breaks fault → Tells memory view answer (Err fault)
  -- all of this as one function of the text
  pub exact : Tells memory view answer read

-- an answer for a line: what it is, where it breaks nothing, or its fault
abbrev pub Judges : {X F : Type 0} → Result X F → Option F → (X → Type 0) → Type 0
Judges (Ok x) fault Is = (fault ≡ None) × Is x
Judges (Err named) fault Is = fault ≡ Some named

-- the value of a line that has one
abbrev pub values_in : {V F : Type 0} → Result (Option V) F → List V
values_in (Ok (Some value)) = value ∷ []
values_in other = []

-- the fault of the first line that has one
abbrev pub first_fault : {L V F : Type 0} → (L → Result (Option V) F) → List L → Option F
first_fault judge [] = None
first_fault judge (line ∷ lines) = option_or (fault_in (judge line)) (first_fault judge lines)

-- the values of the lines that have one, in order
abbrev pub values_on : {L V F : Type 0} → (L → Result (Option V) F) → List L → List V
values_on judge [] = []
values_on judge (line ∷ lines) = values_in (judge line) ++ values_on judge lines

-- what lines are read as behind values that were read before
abbrev pub read_behind : {L V F : Type 0} → (L → Result (Option V) F) → List V → List L → Result (List V) F
read_behind judge values lines = reading (first_fault judge lines) (values ++ values_on judge lines)

-- what lines are read as of which each is read as a value, as nothing or as a fault: their values, or the
-- first fault
abbrev pub read_lines : {L V F : Type 0} → (L → Result (Option V) F) → List L → Result (List V) F
read_lines judge lines = read_behind judge [] lines

-- the fault of the line at a place, from 0, where it has one
abbrev pub fault_on : {L V F : Type 0} → (L → Result (Option V) F) → List L → ℕ → Option F
fault_on judge lines place = option_and_then (λ line. fault_in (judge line)) (slice_get lines place)

-- a line spells the first of the values, and the others are so
pub record SpellsFirst {V : Type 0} (Spells : V → Type 0) (Others : List V → Type 0) (values : List V) : Type
    0 where
  pub first : V
  pub others : List V
  pub are : values ≡ first ∷ others
  pub spelled : Spells first
  pub later : Others others

-- each line is blank or spells the value at its place, and there are no other values
abbrev pub SpellInOrder : {L V : Type 0} → (L → Type 0) → (L → V → Type 0) → List L → List V → Type 0
SpellInOrder IsBlank Spells [] values = values ≡ []
SpellInOrder IsBlank Spells (line ∷ lines) values = (IsBlank line × SpellInOrder IsBlank Spells lines values)
    ⊎ SpellsFirst (Spells line) (SpellInOrder IsBlank Spells lines) values
