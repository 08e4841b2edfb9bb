-- What objects in memory hold, and how they answer.
use Rattle.std.specs.Prelude.{ℕ, ◌-◌, ◌==◌, min, Bool, ◌||◌, if◌then◌else◌, List, [], ◌∷◌, length}
use Rattle.std.specs.Prelude.{Option, None, Some, unwrap_or}
use Rattle.std.specs.List.{list_any}
use Rattle.std.specs.Option.{option_map, option_map_or}
use Rattle.std.specs.Str.{bytes_eq}
use Rattle.io_edge.specs.Causes.{raised}
use Rattle.io_edge.specs.Known.{Held, absent, holding}

-- how an object answers its calls
pub record Pace : Type 0 where
  -- a call moves at most this many bytes
  pub piece : ℕ
  -- the numbers, from 1, of the calls that are to fail
  pub failing : List ℕ
  -- how many calls were made
  pub made : ℕ
  -- how many calls failed
  pub faults : ℕ

-- the pace before the first call
abbrev pub first_pace : ℕ → List ℕ → Pace
first_pace piece failing = record { piece = piece; failing = failing; made = 0; faults = 0 }

-- whether the next call is to fail
abbrev pub fails_next : Pace → Bool
fails_next pace = list_any (λ call. call == raised pace.made) pace.failing

-- how many bytes a call moves that doesn't fail, where so many would fit and so many are there
abbrev pub amount : Pace → ℕ → ℕ → ℕ
amount pace room there = min pace.piece (min room there)

-- the pace after a call, which failed or not
abbrev pub after_call : Pace → Bool → Pace
after_call pace failed = record {
  piece = pace.piece;
  failing = pace.failing;
  made = raised pace.made;
  faults = if failed then raised pace.faults else pace.faults;
}

-- the bytes of the first file of this name, if there is one
abbrev pub file_under : List (List ℕ × List ℕ) → List ℕ → Option (List ℕ)
file_under [] name = None
file_under (file ∷ files) name = if bytes_eq file.0 name then Some file.1 else file_under files name

-- named bytes, and how calls on them are answered
pub record NamedBytes : Type 0 where
  pub files : List (List ℕ × List ℕ)
  pub pace : Pace

-- what stands under a name
abbrev pub held_under : List (List ℕ × List ℕ) → List ℕ → Held
held_under files name = option_map_or holding (file_under files name) absent

-- what stands under a name, where an absent name is an empty file
abbrev pub held_surely : List (List ℕ × List ℕ) → List ℕ → Held
held_surely files name = holding (unwrap_or (file_under files name) [])

-- how many bytes the next read from `place` on gives, or none where it fails
abbrev pub amount_read : NamedBytes → List ℕ → ℕ → ℕ → Option ℕ
amount_read store name place room =
    let given : List ℕ → ℕ = λ bytes. amount store.pace room (length bytes - place) in
    if fails_next store.pace then None else option_map given (file_under store.files name)

-- bytes that come in, and how calls on them are answered
pub record Incoming : Type 0 where
  pub left : List ℕ
  pub pace : Pace

-- how many bytes the next read takes, or none where it fails
abbrev pub amount_taken : Incoming → ℕ → Option ℕ
amount_taken source room =
    if fails_next source.pace then None else Some (amount source.pace room (length source.left))

-- bytes that went out, the room for all of them, and how calls on them are answered
pub record Outgoing : Type 0 where
  pub written : List ℕ
  pub room : ℕ
  pub pace : Pace

-- how many bytes of a piece the next write appends, or none where it fails or finds no room
abbrev pub amount_put : Outgoing → ℕ → Option ℕ
amount_put sink size =
    let free = sink.room - length sink.written in
    if fails_next sink.pace || free == 0 then None else Some (amount sink.pace size free)
