-- How each line of a text breaks the grammar of maps, and the reading of a text up to the first line that
-- does.
use Rattle.std.specs.Prelude.{◌≡◌, ℕ, zero, suc, ◌+◌, ◌<◌, Bool, false, nat_lt, nat_le, ◌==◌, ◌&&◌, not}
use Rattle.std.specs.Prelude.{if◌then◌else◌, List, [], ◌∷◌, length, take, drop, slice_get, codes, position}
use Rattle.std.specs.Prelude.{unwrap_or, Option, Some, None, Result}
use Rattle.std.specs.Option.{option_map, option_and_then, option_or}
use Rattle.std.specs.List.{concat}
use Rattle.std.specs.Str.{bytes_eq}
use Rattle.std.specs.Cmp.Lexicographic.{pointwise}
use Rattle.text_line.specs.Lines.{lines_of}
use Rattle.text_line.specs.Fields.{fields_of, is_nothing}
use Rattle.text_line.specs.Numbers.{number_of}
use Rattle.text_line.specs.Reading as read
use Rattle.text_line.specs.Reading.{reading}
use Rattle.text_line.specs.declared.lines.Line.{Line}
use Rattle.map_text.specs.declared.fault.MapFault.{MapFault}
use Rattle.map_text.specs.declared.fault.MapFault.TheVariants.{Header, Side, Short, Missing, Byte, After}
use Rattle.map_text.specs.declared.fault.MapFault.TheVariants.{NoMemory}
use Rattle.map_text.specs.declared.map.MapText.{MapText}
use Rattle.map_text.specs.Map.{Map, is_terrain}

-- the bytes of a line, where there is one
abbrev pub bytes_of : Option Line → Option (List ℕ)
bytes_of line = option_map (λ there. there.bytes.now) line

-- whether a line is there and its fields are these words
abbrev pub has_words : List (List ℕ) → Option (List ℕ) → Bool
has_words words None = false
has_words words (Some line) = pointwise bytes_eq (fields_of line) words

-- the number that two fields, the word and a number, name
abbrev pub side_in : List ℕ → List (List ℕ) → Option ℕ
side_in word (name ∷ number ∷ []) = if bytes_eq name word then number_of number else None
side_in word _ = None

-- the number that a line names so, where the line is there
abbrev pub side_on : List ℕ → Option (List ℕ) → Option ℕ
side_on word line = option_and_then (λ there. side_in word (fields_of there)) line

-- M1: a header line is absent or has other words
abbrev pub words_fault : ℕ → Bool → Option MapFault
words_fault number right = if right then None else Some (Header number)

-- M1: the line of a side is absent or has other fields; M2: the side is 0 or above 4096
abbrev pub side_fault : ℕ → Option ℕ → Option MapFault
side_fault number None = Some (Header number)
side_fault number (Some side) = if nat_le 1 side && nat_le side 4096 then None else Some (Side number)

-- M5: the first byte that is no terrain, the columns counted from 1
abbrev pub byte_fault : ℕ → Option ℕ → Option MapFault
byte_fault number None = None
byte_fault number (Some place) = Some (Byte number (place + 1))

-- M4: a row is absent; M3: it has another length than the map's width
abbrev pub row_fault : ℕ → ℕ → Option (List ℕ) → Option MapFault
row_fault number width None = Some (Missing number)
row_fault number width (Some row) = if length row == width then byte_fault number
    (position (λ byte. not (is_terrain byte)) row) else Some (Short number)

-- M6: a line after the rows is not empty
abbrev pub after_fault : ℕ → Option (List ℕ) → Option MapFault
after_fault number None = None
after_fault number (Some line) = if is_nothing line then None else Some (After number)

-- the height that the second line names, 0 where it names none
abbrev pub height_of : List (List ℕ) → ℕ
height_of lines = unwrap_or (side_on (codes "height") (slice_get lines 1)) 0

-- the width that the third line names, 0 where it names none
abbrev pub width_of : List (List ℕ) → ℕ
width_of lines = unwrap_or (side_on (codes "width") (slice_get lines 2)) 0

-- how the line at a place, counted from 0, breaks the grammar, where it does; its number is one more
abbrev pub fault_at : List (List ℕ) → ℕ → Option MapFault
fault_at lines zero = words_fault 1 (has_words (codes "type" ∷ codes "octile" ∷ []) (slice_get lines 0))
fault_at lines (suc zero) = side_fault 2 (side_on (codes "height") (slice_get lines 1))
fault_at lines (suc (suc zero)) = side_fault 3 (side_on (codes "width") (slice_get lines 2))
fault_at lines (suc (suc (suc zero))) = words_fault 4 (has_words (codes "map" ∷ []) (slice_get lines 3))
fault_at lines (suc (suc (suc (suc row)))) =
    if nat_lt row (height_of lines) then row_fault (row + 5) (width_of lines)
    (slice_get lines (suc (suc (suc (suc row)))))
    else after_fault (row + 5) (slice_get lines (suc (suc (suc (suc row)))))

-- the fault of the first of so many places, from one on, that has a fault
abbrev pub first_fault : List (List ℕ) → ℕ → ℕ → Option MapFault
first_fault lines place zero = None
first_fault lines place (suc count) = option_or (fault_at lines place) (first_fault lines (place + 1) count)

-- the map on lines that break nothing
abbrev pub map_on : List (List ℕ) → Map
map_on lines = record {
  width = width_of lines;
  height = height_of lines;
  cells = concat
      (take (height_of lines) (drop 4 lines));
}

-- what a text is read as: its map, or the fault of its first broken line; the place after the last line is
-- judged too, as a line may be absent
unfoldable pub map_of : List ℕ → Result Map MapFault
map_of text = let lines = lines_of text in reading (first_fault lines 0 (length lines + 1)) (map_on lines)

-- no line before the place breaks the grammar
abbrev pub CleanBefore : List (List ℕ) → ℕ → Type 0
CleanBefore lines place = (k : ℕ) → k < place → fault_at lines k ≡ None

-- the first line that breaks the grammar breaks it so
abbrev pub BreaksFirst : List (List ℕ) → MapFault → Type 0
BreaksFirst lines fault = read.BreaksFirst (fault_at lines) fault

-- a map without where it lies in memory
abbrev pub plain : MapText → Map
plain m = record { width = m.width; height = m.height; cells = m.cells }

-- an answer tells a reading; for want of memory it tells nothing
abbrev pub Tells : Result MapText MapFault → Result Map MapFault → Type 0
Tells answer reading = read.Tells NoMemory plain answer reading
