-- What an answer is made of: the texts of a call's files, and what these are read as.
use Rattle.std.specs.Prelude.{◌≡◌, ℕ, List, [], ◌∷◌, Ok, Err, Option, None}
use Rattle.std.specs.declared.result.Result.{Result}
use Rattle.map_text.specs.Map.{Map}
use Rattle.map_text.specs.Faults.{map_of}

-- what is printed, line by line, and the status
pub record Output : Type 0 where
  pub lines : List (List ℕ)
  pub status : ℕ

-- one text with a status
abbrev pub printed : List ℕ → ℕ → Output
printed text status = record { lines = text ∷ []; status = status }

-- these lines and this status are the output
pub record Prints (output : Output) (lines : List (List ℕ)) (status : ℕ) : Type 0 where
  pub all : lines ≡ output.lines
  pub code : status ≡ output.status

-- what is made of a value, where there is one
abbrev pub on_read : {V F X : Type 0} → Result V F → (V → Option X) → Option X
on_read (Ok value) make = make value
on_read (Err fault) make = None

-- what is made of the map that the first text spells, and of the texts behind it
abbrev pub on_map : {X : Type 0} → List (List ℕ) → (Map → List (List ℕ) → Option X) → Option X
on_map [] make = None
on_map (text ∷ behind) make = on_read (map_of text) (λ m. make m behind)

-- what is made of the last text
abbrev pub on_last : {X : Type 0} → List (List ℕ) → (List ℕ → Option X) → Option X
on_last [] make = None
on_last (text ∷ []) make = make text
on_last (text ∷ next ∷ behind) make = on_last (next ∷ behind) make
