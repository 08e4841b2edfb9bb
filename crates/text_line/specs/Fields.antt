-- The fields of a line.
use Rattle.std.specs.Prelude.{ℕ, Bool, true, false, List, [], ◌∷◌, filter, ◌==◌, ◌||◌}
use Rattle.std.specs.List.{slice_split}

-- space and tab, which part fields
abbrev pub is_blank_byte : ℕ → Bool
is_blank_byte byte = byte == 32 || byte == 9

-- whether a list has no element
abbrev pub is_nothing : {A : Type 0} → List A → Bool
is_nothing [] = true
is_nothing (x ∷ xs) = false

-- whether it has one
abbrev pub is_something : {A : Type 0} → List A → Bool
is_something [] = false
is_something (x ∷ xs) = true

-- the longest pieces of a line without space and tab: what stands between these, where that is something
abbrev pub fields_of : List ℕ → List (List ℕ)
fields_of line = filter is_something (slice_split is_blank_byte line)

-- a line is blank where it has no field
abbrev pub is_blank : List ℕ → Bool
is_blank line = is_nothing (fields_of line)
