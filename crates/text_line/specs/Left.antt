-- What an iterator over the lines or the pieces of a text has left.
use Rattle.std.specs.Prelude.{◌≡◌, ℕ, ◌+◌, List, [], ◌∷◌, Option, Some, None}
use Rattle.text_line.specs.Lines.{pieces_of}
use Rattle.text_line.specs.declared.lines.Line.{Line}

-- the lines that are still to come, and the number of the first of them
pub record Left : Type 0 where
  pub lines : List (List ℕ)
  pub number : ℕ

-- a call of `next` gave the first line left, with its number, and left the others; none exactly at the end
abbrev pub GivesNext : Left → Option Line → Left → Type 0
GivesNext old None new = (old.lines ≡ []) × (new ≡ old)
GivesNext old (Some line) new =
    (old.lines ≡ line.bytes.now ∷ new.lines) × (line.number ≡ old.number) × (new.number ≡ old.number + 1)

-- a piece of a text with its number, from 1
pub record Numbered : Type 0 where
  pub number : ℕ
  pub bytes : List ℕ

-- pieces, counted from a number on
abbrev pub numbered_from : ℕ → List (List ℕ) → List Numbered
numbered_from number [] = []
numbered_from number (piece ∷ pieces) =
    record { number = number; bytes = piece } ∷ numbered_from (number + 1) pieces

-- the pieces of a text with their numbers
abbrev pub numbered_pieces : List ℕ → List Numbered
numbered_pieces text = numbered_from 1 (pieces_of text)

-- a piece as an iterator gives it
abbrev pub numbered : Line → Numbered
numbered line = record { number = line.number; bytes = line.bytes.now }
