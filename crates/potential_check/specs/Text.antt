-- The grammar of certificates: which lines may follow which.
use Rattle.std.specs.Prelude.{◌≡◌, ℕ, ◌+◌, ◌^◌, ◌≤◌, Bool, true, nat_le, ◌&&◌, if◌then◌else◌, List, [], ◌∷◌}
use Rattle.std.specs.Prelude.{◌++◌, length, take, slice_get, codes, Option, Some, None, Result, Ok, Err}
use Rattle.std.specs.List.{list_all}
use Rattle.std.specs.Option.{option_and_then}
use Rattle.std.specs.Str.{bytes_eq}
use Rattle.root2_cost.specs.declared.Cost.{Cost}
use Rattle.grid_moves.specs.declared.Cell.{Cell}
use Rattle.grid_moves.specs.Grid.{cell_number}
use Rattle.text_line.specs.Fields.{is_nothing}
use Rattle.text_line.specs.Left.{Left}
use Rattle.text_line.specs.Lines.{lines_of}
use Rattle.text_line.specs.Reading as reading
use Rattle.potential_check.specs.declared.certificate.Claim.{Claim}
use Rattle.potential_check.specs.declared.certificate.Claim.TheVariants.{Least, NoWalk}
use Rattle.potential_check.specs.declared.certificate.Certificate.{Certificate}
use Rattle.potential_check.specs.declared.reading.Head.{Head}
use Rattle.potential_check.specs.declared.fault.CertFault.{CertFault}
use Rattle.potential_check.specs.declared.fault.CertFault.TheVariants.{Line, Order, NoMemory}
use Rattle.potential_check.specs.Certificate.{are_sides, is_short, lies_inside}
use Rattle.potential_check.specs.Forms.{ends_on, least_on, member_on, points_on, size_on, value_on}

-- a certificate without where it lies in memory
pub record Plain : Type 0 where
  pub head : Head
  pub claim : Claim

-- what was read, by which it is known which lines may follow
pub data State : Type 0 where
  at_version : State
  at_size : State
  at_ends : ℕ → ℕ → State
  at_claim : Head → State
  at_points : Head → Cost → State
  in_values : Head → Cost → List Cell → ℕ → List (Cell × Cost) → State
  in_cells : Head → ℕ → List Cell → State
  ended : Plain → State

-- what comes of a line: it may follow, or it is misspelt, or it lists a cell out of order
pub data Step : Type 0 where
  goes : State → Step
  misspelt : Step
  unordered : Step

-- a line of a form that spells something
abbrev pub spelled : {A : Type 0} → Option A → (A → Step) → Step
spelled None next = misspelt
spelled (Some a) next = next a

-- a listed cell lies inside, and has at least this number
abbrev pub listed : Head → ℕ → Cell → State → Step
listed head least c state = if lies_inside head.width head.height c
    then (if nat_le least (cell_number head.width c) then goes state else unordered) else misspelt

-- the last line of a list
abbrev pub is_end : List ℕ → Bool
is_end line = bytes_eq line (codes "end")

-- which line may follow: `jps-cert 1`, `size W H`, `ends SX SY GX GY`, `least A B` or `none`; then the
-- points, and
-- values or cells in ascending order of their numbers; then `end`, and empty lines
abbrev pub next : State → List ℕ → Step
next at_version line = if bytes_eq line (codes "jps-cert 1") then goes at_size else misspelt
next at_size line = spelled (size_on line) (λ sides. goes (at_ends sides.0 sides.1))
next (at_ends width height) line = spelled (ends_on line)
    (λ ends. goes (at_claim (record { width = width; height = height; start = ends.0; goal = ends.1 })))
next (at_claim head) line = if bytes_eq line (codes "none") then goes (in_cells head 0 [])
    else spelled (least_on line) (λ cost. goes (at_points head cost))
next (at_points head cost) line = spelled (points_on line) (λ points. goes (in_values head cost points 0 []))
next (in_values head cost points least values) line =
    if is_end line then goes (ended (record { head = head; claim = Least cost points values }))
    else spelled (value_on line) (λ entry. listed head least entry.0
    (in_values head cost points (cell_number head.width entry.0 + 1) (values ++ entry ∷ [])))
next (in_cells head least cells) line =
    if is_end line then goes (ended (record { head = head; claim = NoWalk cells }))
    else spelled (member_on line) (λ c. listed head least c
    (in_cells head (cell_number head.width c + 1) (cells ++ c ∷ [])))
next (ended plain) line = if is_nothing line then goes (ended plain) else misspelt

-- what is read where no line is left and the next one has this number: a certificate that has ended, or
-- the fault that
-- the line is absent
abbrev pub closed : State → ℕ → Result Plain CertFault
closed (ended plain) number = Ok plain
closed _ number = Err (Line number)

-- what comes of a line with this number
abbrev pub after_step : Step → ℕ → (State → Result Plain CertFault) → Result Plain CertFault
after_step (goes state) number more = more state
after_step misspelt number more = Err (Line number)
after_step unordered number more = Err (Order number)

-- what the lines from a number on are read as
abbrev pub read_from : State → ℕ → List (List ℕ) → Result Plain CertFault
read_from state number [] = closed state number
read_from state number (line ∷ lines) =
    after_step (next state line) number (λ after. read_from after (number + 1) lines)

-- what a text is read as: its certificate, or the fault of its first broken line
unfoldable pub certificate_of : List ℕ → Result Plain CertFault
certificate_of text = read_from at_version 1 (lines_of text)

-- the state after a line that may follow, and what comes of it
abbrev pub if_goes : Step → (State → Option State) → Option State
if_goes (goes state) more = more state
if_goes misspelt more = None
if_goes unordered more = None

-- the state after lines that all may follow
abbrev pub state_after : State → List (List ℕ) → Option State
state_after state [] = Some state
state_after state (line ∷ lines) = if_goes (next state line) (λ after. state_after after lines)

-- the fault of a line with this number
abbrev pub step_fault : Step → ℕ → Option CertFault
step_fault (goes state) number = None
step_fault misspelt number = Some (Line number)
step_fault unordered number = Some (Order number)

-- where no line is left, it is absent, unless the certificate has ended
abbrev pub absent_fault : State → ℕ → Option CertFault
absent_fault (ended plain) number = None
absent_fault _ number = Some (Line number)

-- how a line with this number, which may be absent, breaks the grammar after a state
abbrev pub fault_after : State → ℕ → Option (List ℕ) → Option CertFault
fault_after state number None = absent_fault state number
fault_after state number (Some line) = step_fault (next state line) number

-- how the line at a place, from 0, breaks the grammar after the lines before it, where these may follow one
-- another
abbrev pub fault_at : List (List ℕ) → ℕ → Option CertFault
fault_at lines place = option_and_then (λ state. fault_after state (place + 1) (slice_get lines place))
    (state_after at_version (take place lines))

-- the first line that breaks the grammar breaks it so
abbrev pub BreaksFirst : List (List ℕ) → CertFault → Type 0
BreaksFirst lines fault = reading.BreaksFirst (fault_at lines) fault

-- a certificate without where it lies in memory
abbrev pub plain : Certificate → Plain
plain c = record {
  head = record { width = c.width; height = c.height; start = c.start; goal = c.goal };
  claim = c.claim;
}

-- an answer tells a reading; for want of memory it tells nothing
abbrev pub Tells : Result Certificate CertFault → Result Plain CertFault → Type 0
Tells (Ok c) read = read ≡ Ok (plain c)
Tells (Err NoMemory) read = Unit {0}
Tells (Err fault) read = read ≡ Err fault

-- what the lines left are read as
abbrev pub read_left : State → Left → Result Plain CertFault
read_left state left = read_from state left.number left.lines

-- lines of at most 2^30 bytes, and not too many for their numbers
pub record AreShort (left : Left) : Type 0 where
  pub few : left.number + length left.lines ≤ 2 ^ 31
  pub short : list_all (λ line. nat_le (length line) (2 ^ 30)) left.lines ≡ true

-- start and goal have at most four digits, and the sides are 1 to 4096
abbrev pub is_head : Head → Bool
is_head head = are_sides head.width head.height && is_short head.start && is_short head.goal

-- the answer for a listed cell: its number, where it may be listed, or else the fault of its line
abbrev pub Places : Head → ℕ → ℕ → Cell → Result ℕ CertFault → Type 0
Places head least number c (Ok at) = (lies_inside head.width head.height c ≡ true) × (least ≤ at)
    × (at ≡ cell_number head.width c)
Places head least number c (Err fault) =
    (state : State) → step_fault (listed head least c state) number ≡ Some fault
