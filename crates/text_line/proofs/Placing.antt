-- The places of lines and fields.
use Rattle.std.proofs.Common.{◌≡◌, ℕ, zero, suc, ◌+◌, ◌^◌, ◌<◌, ◌≤◌, true, false, List, [], ◌∷◌, length}
use Rattle.std.proofs.Common.{get_or, take, drop, Some, None, refl, sym, ap, ◌∙◌, add-zero, arith}
use Rattle.std.specs.Prelude.{filter, map, position}
use Rattle.std.specs.List.{slice_split, onto_first}
use Rattle.std.proofs.lemmas.Bool.{cases_Bool, not-false}
use Rattle.std.proofs.lemmas.List.{drop_all, take_all, get_or-drop, length-drop, length-take-le}
use Rattle.std.proofs.Math.Seq.{drop-cons}
use Rattle.std.proofs.lemmas.List.Quantifiers.{position-Some}
use Rattle.text_line.specs.Lines.{pieces_of, without_cr}
use Rattle.text_line.specs.Fields.{is_blank_byte, is_something, fields_of}
use Rattle.text_line.specs.Places.{Placed, placed_from, fields_from, lines_from, room_of, IsFirstField}
use Rattle.text_line.specs.declared.lines.Line.{Line}
use Rattle.text_line.specs.Left.{Left, GivesNext}
use Rattle.text_line.proofs.Parts.{position-None, is_filled, parts_of_cut, parts_of_one}

-- places aside, these are the fields
bytes_of_placed : (place : ℕ) (parts : List (List ℕ))
    → map (λ field. field.bytes) (filter (λ field. is_something field.bytes) (placed_from place parts)) ≡
    filter is_something parts
bytes_of_placed place [] = refl
bytes_of_placed place ([] ∷ parts) = bytes_of_placed (place + 0 + 1) parts
bytes_of_placed place ((b ∷ part) ∷ parts) =
    ap (λ (rest : List (List ℕ)). (b ∷ part) ∷ rest) (bytes_of_placed (place + length (b ∷ part) + 1) parts)

pub bytes_of_fields : (place : ℕ) (line : List ℕ)
    → map (λ field. field.bytes) (fields_from place line) ≡ fields_of line
bytes_of_fields place line = bytes_of_placed place (slice_split is_blank_byte line)

-- and these the lines
pub bytes_of_lines : (number place : ℕ) (pieces : List (List ℕ))
    → map (λ line. line.bytes) (lines_from number place pieces) ≡ map without_cr pieces
bytes_of_lines number place [] = refl
bytes_of_lines number place (piece ∷ pieces) = ap (λ (rest : List (List ℕ)). without_cr piece ∷ rest)
    (bytes_of_lines (number + 1) (place + length piece + 1) pieces)

pub room_onto : (b n : ℕ) (pieces : List (List ℕ)) → room_of pieces ≤ n + 1
    → room_of (onto_first b pieces) ≤ suc n + 1
room_onto b n [] small = omega arith
room_onto b n (piece ∷ pieces) small = omega arith

-- the pieces of a text take no more than the text and one line feed
pub room_of_pieces : (text : List ℕ) → room_of (pieces_of text) ≤ length text + 1
room_of_pieces [] = omega arith
room_of_pieces (b ∷ bytes) = grind (arith, cases_Bool, room_onto, room_of_pieces bytes)

-- a line is no longer than its piece
pub length-without_cr : (piece : List ℕ) → length (without_cr piece) ≤ length piece
length-without_cr [] = omega arith
length-without_cr (b ∷ []) = grind (arith, cases_Bool)
length-without_cr (b ∷ next ∷ bytes) = omega (arith, length-without_cr (next ∷ bytes))

-- blanks at the front are read over
fields_from_skipped : (place : ℕ) (line : List ℕ) (start : ℕ) → start ≤ length line
    → ((k : ℕ) → k < start → is_filled (get_or line k 0) ≡ false)
    → fields_from place line ≡ fields_from (place + start) (drop start line)
fields_from_skipped place line zero inside blank = ap (λ (n : ℕ). fields_from n line) (omega arith)
fields_from_skipped place [] (suc start) inside blank = absurd (omega arith)
fields_from_skipped place (b ∷ bytes) (suc start) inside blank =
    let later =
    fields_from_skipped (place + 0 + 1) bytes start (omega arith) (λ k lt. blank (suc k) (omega arith)) in
    let next : place + 0 + 1 + start ≡ place + suc start = omega arith in
    rw (not-false (is_blank_byte b) (blank 0 (omega arith)))
    (later ∙ ap (λ (n : ℕ). fields_from n (drop start bytes)) next)

-- a line of blanks has no field
pub fields_from_none : (place : ℕ) (line : List ℕ) → position is_filled line ≡ None
    → fields_from place line ≡ []
fields_from_none place line none =
    fields_from_skipped place line (length line) (omega arith) (position-None is_filled line none)
    ∙ ap (fields_from (place + length line)) (drop_all (length line) line (omega arith))

-- a field that begins at the line's front ends at the first blank after it
fields_from_cut : (place : ℕ) (line : List ℕ) (end : ℕ) → is_filled (get_or line 0 0) ≡ true
    → position is_blank_byte line ≡ Some end
    → fields_from place line ≡ record { start = place; end = place + end; bytes = take end line } ∷
    fields_from (place + end) (drop end line)
fields_from_cut place [] end filled at = absurd cc
fields_from_cut place (b ∷ bytes) zero filled at = grind (arith, position-Some)
fields_from_cut place (b ∷ bytes) (suc end) filled at =
    let found = position-Some is_blank_byte (b ∷ bytes) (suc end) 0 at in
    let parts = ap (λ (all : List (List ℕ)). filter (λ field. is_something field.bytes)
    (placed_from place all)) (parts_of_cut (b ∷ bytes) (suc end) found.0 found.2 found.1) in
    let inside : end < length bytes = omega arith in
    let blank : is_blank_byte (get_or bytes end 0) ≡ true = found.1 in
    let long : length (take end bytes) ≡ end = length-take-le end bytes (omega arith) in
    let place_is : place + suc (length (take end bytes)) + 1 ≡ place + suc end + 0 + 1 = omega arith in
    let after : fields_from (place + suc end) (drop end bytes)
    ≡ fields_from (place + suc end + 0 + 1) (drop (suc end) bytes) =
    rw (drop-cons bytes end 0 inside, blank) refl in
    let here : Placed = record { start = place; end = place + suc end; bytes = b ∷ take end bytes } in
    let end_is : place + suc (length (take end bytes)) ≡ place + suc end = omega arith in
    parts
    ∙ ap (λ (n : ℕ). let first : Placed = record { start = place; end = n; bytes = b ∷ take end bytes } in
    first ∷ fields_from (place + suc (length (take end bytes)) + 1) (drop (suc end) bytes)) end_is
    ∙ ap (λ (n : ℕ). here ∷ fields_from n (drop (suc end) bytes)) place_is
    ∙ ap (λ (fields : List Placed). here ∷ fields) (sym after)

-- or at the line's end
fields_from_one : (place : ℕ) (line : List ℕ) → 0 < length line → position is_blank_byte line ≡ None
    → fields_from place line ≡ record {
      start = place;
      end = place + length line;
      bytes = take (length line) line;
    } ∷ fields_from (place + length line) (drop (length line) line)
fields_from_one place [] some none = absurd (omega arith)
fields_from_one place (b ∷ bytes) some none =
    rw (
      take_all (length (b ∷ bytes)) (b ∷ bytes) (omega arith),
      drop_all (length (b ∷ bytes)) (b ∷ bytes) (omega arith),
    ) (ap (λ (all : List (List ℕ)). filter (λ field. is_something field.bytes)
    (placed_from place all)) (parts_of_one (b ∷ bytes) (position-None is_blank_byte (b ∷ bytes) none)))

-- the first field of a line that has one
pub first_ends : (line : List ℕ) (from count : ℕ) → position is_filled line ≡ Some from
    → position is_blank_byte (drop from line) ≡ Some count → IsFirstField line from count
first_ends line from count begins ends = record {
  within = grind (arith, position-Some, length-drop);
  is = λ place. grind (arith, position-Some, get_or-drop, add-zero, fields_from_skipped, fields_from_cut);
}

pub first_is_last : (line : List ℕ) (from : ℕ) → position is_filled line ≡ Some from
    → position is_blank_byte (drop from line) ≡ None → IsFirstField line from (length (drop from line))
first_is_last line from begins none =
    let found = position-Some is_filled line from 0 begins in
    let some : 0 < length (drop from line) = omega (arith, found.0, length-drop from line) in
    record {
      within = omega (arith, found.0, length-drop from line);
      is = λ place. fields_from_skipped place line from (omega (arith, found.0)) found.2
          ∙ fields_from_one (place + from) (drop from line) some none;
    }

-- the same, places aside
pub fields_of_first : (line : List ℕ) (from count : ℕ) → IsFirstField line from count
    → fields_of line ≡ take count (drop from line) ∷ fields_of (drop count (drop from line))
fields_of_first line from count first =
    sym (bytes_of_fields 0 line) ∙ ap (map (λ field. field.bytes)) (first.is 0)
    ∙ ap (λ (rest : List (List ℕ)). take count (drop from line) ∷ rest)
    (bytes_of_fields (0 + from + count) (drop count (drop from line)))

pub fields_of_none : (line : List ℕ) → ((place : ℕ) → fields_from place line ≡ []) → fields_of line ≡ []
fields_of_none line none = sym (bytes_of_fields 0 line) ∙ ap (map (λ field. field.bytes)) (none 0)

-- the next piece without its carriage return is the next line
pub line_given : (old new : Left) (line : Line) (place : ℕ) (bytes : List ℕ) → GivesNext old (Some line) new
    → bytes ≡ without_cr line.bytes.now → place + room_of old.lines ≤ 2 ^ 30 + 1
    → (lines_from old.number place old.lines ≡ record { number = line.number; place = place; bytes = bytes } ∷
    lines_from new.number (place + (length line.bytes.now + 1)) new.lines) × (place + length bytes ≤ 2 ^ 30)
line_given old new line place bytes gives is fits = grind (arith, length-without_cr)
