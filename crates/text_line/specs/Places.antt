-- The places in a text at which its lines and their fields begin.
use Rattle.std.specs.Prelude.{◌≡◌, ℕ, ◌+◌, ◌^◌, ◌≤◌, List, [], ◌∷◌, filter, length, Option, Some}
use Rattle.std.specs.Prelude.{None, take, drop}
use Rattle.std.specs.List.{slice_split}
use Rattle.text_line.specs.Lines.{pieces_of, without_cr}
use Rattle.text_line.specs.Fields.{is_blank_byte, is_something}
use Rattle.text_line.specs.declared.places.PlacedLine as lines
use Rattle.text_line.specs.declared.places.PlacedField as fields

-- a piece of a text, the place of its first byte, from 0, and the place behind its last byte
pub record Placed : Type 0 where
  pub start : ℕ
  pub end : ℕ
  pub bytes : List ℕ

-- a line with its number, from 1, and the place of its first byte in the text, from 0
pub record LineAt : Type 0 where
  pub number : ℕ
  pub place : ℕ
  pub bytes : List ℕ

-- pieces from a place on, each one byte behind the end of the piece before it
abbrev pub placed_from : ℕ → List (List ℕ) → List Placed
placed_from place [] = []
placed_from place (piece ∷ pieces) = record { start = place; end = place + length piece; bytes = piece } ∷
    placed_from (place + length piece + 1) pieces

-- the fields of a line that begins at this place
abbrev pub fields_from : ℕ → List ℕ → List Placed
fields_from place line =
    filter (λ field. is_something field.bytes) (placed_from place (slice_split is_blank_byte line))

-- the first field of a line has so many bytes from this place of the line on, wherever the line begins
pub record IsFirstField (line : List ℕ) (from count : ℕ) : Type 0 where
  pub within : from + count ≤ length line
  pub is : (place : ℕ) → fields_from place line ≡ record {
    start = place + from;
    end = place + from + count;
    bytes = take count (drop from line);
  } ∷ fields_from (place + from + count) (drop count (drop from line))

-- the lines of pieces from a number and a place on, each piece one byte behind the end of the one before it
abbrev pub lines_from : ℕ → ℕ → List (List ℕ) → List LineAt
lines_from number place [] = []
lines_from number place (piece ∷ pieces) =
    record { number = number; place = place; bytes = without_cr piece } ∷ lines_from (number + 1)
    (place + length piece + 1) pieces

-- the lines of a text with their numbers and places
abbrev pub lines_at : List ℕ → List LineAt
lines_at text = lines_from 1 0 (pieces_of text)

-- the bytes that pieces take with a line feed behind each
abbrev pub room_of : List (List ℕ) → ℕ
room_of [] = 0
room_of (piece ∷ pieces) = length piece + 1 + room_of pieces

-- a line as it stands in the text
abbrev pub line_at : lines.PlacedLine → LineAt
line_at line = record { number = line.number; place = line.place; bytes = line.bytes.now }

-- a call of `next` gave the first line left, which ends within the first 2^30 bytes, and left the others;
-- none exactly at the end
abbrev pub GivesLine : List LineAt → Option lines.PlacedLine → List LineAt → Type 0
GivesLine old None new = (old ≡ []) × (new ≡ old)
GivesLine old (Some line) new =
    (old ≡ line_at line ∷ new) × (line.place + length line.bytes.now ≤ 2 ^ 30)

-- a field as it stands in the text
abbrev pub placed : fields.PlacedField → Placed
placed field = record { start = field.start; end = field.end; bytes = field.bytes.now }

-- a call of `next` gave the first field left and left the others; none exactly at the end
abbrev pub GivesField : List Placed → Option fields.PlacedField → List Placed → Type 0
GivesField old None new = (old ≡ []) × (new ≡ old)
GivesField old (Some field) new = old ≡ placed field ∷ new
