-- What reading or writing the whole of something means.
use Rattle.std.specs.Prelude.{◌≡◌, ℕ, ◌≤◌, ◌<◌, List, length, take, ⊤}
use Rattle.std.specs.Io.KnownBytes.{Appends}
use Rattle.std.specs.declared.option.Option.{Option}
use Rattle.io_edge.specs.Known.{Held, unknown, absent, holding}

-- these are all the bytes held, and no more than the limit
abbrev pub IsWhole : Held → ℕ → List ℕ → Type 0
IsWhole unknown limit bytes = length bytes ≤ limit
IsWhole absent limit bytes = ⊥
IsWhole (holding held) limit bytes = (bytes ≡ held) × (length bytes ≤ limit)

-- more bytes than the limit are held
abbrev pub IsLonger : Held → ℕ → Type 0
IsLonger unknown limit = ⊤
IsLonger absent limit = ⊥
IsLonger (holding held) limit = limit < length held

-- some of the first of these bytes were appended
abbrev pub AppendsSome : Option (List ℕ) → Option (List ℕ) → List ℕ → Type 0
AppendsSome old new bytes = (n : ℕ) × (n ≤ length bytes) × Appends old new (take n bytes)
