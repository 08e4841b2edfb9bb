-- Names that were read stand in the text.
use Rattle.std.proofs.lemmas.Bool.Decides.{nat_tests}
use Rattle.std.proofs.Common.{◌≡◌, ℕ, zero, suc, ◌+◌, ◌-◌, ◌<◌, ◌≤◌, Bool, false, List, [], ◌∷◌, ◌++◌}
use Rattle.std.proofs.Common.{length, get_or, take, drop, Some, inl, inr, refl, ap, sym, ◌∙◌, subst, arith}
use Rattle.std.proofs.Common.{append_assoc}
use Rattle.std.specs.Prelude.{filter, slice_get, ⊤}
use Rattle.std.specs.List.{slice_split, onto_first, AllByRecursion}
use Rattle.std.proofs.lemmas.Bool.{cases_Bool}
use Rattle.std.proofs.lemmas.List.{get_or-take, get_or-drop, length-take-le, length-drop}
use Rattle.text_line.specs.Fields.{is_blank_byte, is_something}
use Rattle.text_line.specs.Lines.{pieces_of, without_cr, is_line_feed}
use Rattle.text_line.specs.Places.{Placed, LineAt, placed_from, fields_from, lines_from}
use Rattle.text_line.specs.Reading.{SpellInOrder}
use Rattle.text_line.proofs.Placing.{length-without_cr}
use Rattle.scen_text.specs.declared.entry.ByteRange.{ByteRange}
use Rattle.scen_text.specs.declared.entry.Entry.{Entry}
use Rattle.scen_text.specs.Names.{IsName, NameStands}
use Rattle.scen_text.specs.Spelling.{Spans, IsEntry, IsBlank, Spells}

-- a part stands at a place of a text, and none of its bytes passes the test
record PartIn (test : ℕ → Bool) (text : List ℕ) (place : ℕ) (part : List ℕ) : Type 0 where
  inside : place + length part ≤ length text
  same : (k : ℕ) → k < length part → get_or part k 0 ≡ get_or text (place + k) 0
  none : (k : ℕ) → k < length part → test (get_or part k 0) ≡ false

-- parts, each one byte behind the one before it
abbrev PartsIn : (ℕ → Bool) → List ℕ → ℕ → List (List ℕ) → Type 0
PartsIn test text place [] = ⊤
PartsIn test text place (part ∷ parts) =
    PartIn test text place part × PartsIn test text (place + length part + 1) parts

-- the rest of a text
record Stands (text : List ℕ) (place : ℕ) (rest : List ℕ) : Type 0 where
  inside : place + length rest ≤ length text
  same : (k : ℕ) → k < length rest → get_or rest k 0 ≡ get_or text (place + k) 0

module _ (test : ℕ → Bool) (text : List ℕ) where
  stands_behind : (place x : ℕ) (rest : List ℕ) → Stands text place (x ∷ rest) → Stands text (place + 1) rest
  stands_behind place x rest stands = record {
    inside = let inside = stands.inside in omega arith;
    same = λ k below. stands.same (suc k) (omega arith)
        ∙ ap (λ n. get_or text n 0) (let next : place + suc k ≡ place + 1 + k = omega arith in next);
  }

  part_none : (place : ℕ) → place ≤ length text → PartIn test text place []
  part_none place inside = grind (arith, nat_tests)

  -- a byte before parts joins the first of them
  parts_onto : (place x : ℕ) (parts : List (List ℕ)) → test x ≡ false → x ≡ get_or text (place + 0) 0
      → place + 1 ≤ length text → PartsIn test text (place + 1) parts
      → PartsIn test text place (onto_first x parts)
  parts_onto place x parts h i j k = grind (arith, nat_tests)

  parts_after : (place x : ℕ) (rest : List ℕ) (parts : List (List ℕ)) → Stands text place (x ∷ rest)
      → PartsIn test text (place + 1) parts → PartsIn test text place ([] ∷ parts)
  parts_after place x rest parts stands are = grind (arith, nat_tests)

-- the parts between blanks
blank_parts : (line : List ℕ) (place : ℕ) (rest : List ℕ) → Stands line place rest
    → PartsIn is_blank_byte line place (slice_split is_blank_byte rest)
blank_parts line place [] stands =
    (part_none is_blank_byte line place (let inside = stands.inside in omega arith), tt)
blank_parts line place (x ∷ rest) stands =
    let later = blank_parts line (place + 1) rest (stands_behind is_blank_byte line place x rest stands) in
    let parts = slice_split is_blank_byte rest in
    elim (cases_Bool (is_blank_byte x)) [
      | inl blank ↦ rw blank (parts_after is_blank_byte line place x rest parts stands later)
      | inr filled ↦ rw filled (parts_onto is_blank_byte line place x parts filled
          (stands.same 0 (omega arith)) (let inside = stands.inside in omega arith) later)
    ]

-- the pieces between line feeds
feed_parts : (text : List ℕ) (place : ℕ) (rest : List ℕ) → Stands text place rest
    → PartsIn is_line_feed text place (pieces_of rest)
feed_parts text place [] stands = tt
feed_parts text place (x ∷ rest) stands =
    let later = feed_parts text (place + 1) rest (stands_behind is_line_feed text place x rest stands) in
    elim (cases_Bool (is_line_feed x)) [
      | inl feed ↦ rw feed (parts_after is_line_feed text place x rest (pieces_of rest) stands later)
      | inr other ↦ rw other (parts_onto is_line_feed text place x (pieces_of rest) other
          (stands.same 0 (omega arith)) (let inside = stands.inside in omega arith) later)
    ]

all_stands : (text : List ℕ) → Stands text 0 text
all_stands text = grind (arith, nat_tests)

-- a line without its carriage return
without_cr_at : (piece : List ℕ) (k : ℕ) → k < length (without_cr piece)
    → get_or (without_cr piece) k 0 ≡ get_or piece k 0
without_cr_at [] k below = refl
without_cr_at (b ∷ []) k below = grind (arith, cases_Bool)
without_cr_at (b ∷ next ∷ bytes) zero below = refl
without_cr_at (b ∷ next ∷ bytes) (suc k) below = without_cr_at (next ∷ bytes) k (omega arith)

abbrev LineIn : List ℕ → LineAt → Type 0
LineIn text line = PartIn is_line_feed text line.place line.bytes

line_in : (text : List ℕ) (place : ℕ) (piece : List ℕ) → PartIn is_line_feed text place piece
    → PartIn is_line_feed text place (without_cr piece)
line_in text place piece is = grind (arith, nat_tests, length-without_cr, without_cr_at)

lines_in : (text : List ℕ) (number place : ℕ) (pieces : List (List ℕ))
    → PartsIn is_line_feed text place pieces → AllByRecursion (LineIn text) (lines_from number place pieces)
lines_in text number place [] are = tt
lines_in text number place (piece ∷ pieces) are =
    (line_in text place piece are.0, lines_in text (number + 1) (place + length piece + 1) pieces are.1)

-- a field of a line that begins at this place of a text
record FieldIn (place : ℕ) (line : List ℕ) (field : Placed) : Type 0 where
  from : ℕ
  long : ℕ
  start : field.start ≡ place + from
  end : field.end ≡ place + from + suc long
  inside : from + suc long ≤ length line
  first : is_blank_byte (get_or line from 0) ≡ false
  last : is_blank_byte (get_or line (from + long) 0) ≡ false

-- fields in order, from a place of the text on
abbrev FieldsIn : ℕ → List ℕ → ℕ → List Placed → Type 0
FieldsIn place line low [] = ⊤
FieldsIn place line low (field ∷ fields) =
    FieldIn place line field × (low ≤ field.start) × FieldsIn place line field.end fields

abbrev is_field : Placed → Bool
is_field field = is_something field.bytes

module _ (place : ℕ) (line : List ℕ) where
  fields_in : (low at : ℕ) (parts : List (List ℕ)) → low ≤ place + at → PartsIn is_blank_byte line at parts
      → FieldsIn place line low (filter is_field (placed_from (place + at) parts))
  fields_in low at [] from are = tt
  fields_in low at ([] ∷ parts) from are =
      let next : place + (at + 0 + 1) ≡ place + at + 0 + 1 = omega arith in
      subst (λ n. FieldsIn place line low (filter is_field (placed_from n parts))) next
      (fields_in low (at + 0 + 1) parts (omega arith) are.1)
  fields_in low at ((b ∷ part) ∷ parts) from are =
      let behind = place + at + length (b ∷ part) in
      let next : place + (at + length (b ∷ part) + 1) ≡ behind + 1 = omega arith in (
        record {
          from = at;
          long = length part;
          start = refl;
          end = refl;
          inside = are.0.inside;
          first = ap is_blank_byte (sym (are.0.same 0 (omega arith)
              ∙ ap (λ n. get_or line n 0) (let same : at + 0 ≡ at = omega arith in same)))
              ∙ are.0.none 0 (omega arith);
          last = ap is_blank_byte (sym (are.0.same (length part) (omega arith)))
              ∙ are.0.none (length part) (omega arith);
        },
        from,
        subst (λ n. FieldsIn place line behind (filter is_field (placed_from n parts))) next
            (fields_in behind (at + length (b ∷ part) + 1) parts (omega arith) are.1),
      )

  all_fields_in : FieldsIn place line place (fields_from place line)
  all_fields_in =
      let here : place + 0 ≡ place = omega arith in
      let parts = slice_split is_blank_byte line in
      subst (λ n. FieldsIn place line place (filter is_field (placed_from n parts))) here
      (fields_in place 0 parts (omega arith) (blank_parts line 0 line (all_stands line)))

  -- a field of them
  field_among : (low : ℕ) (before : List Placed) (field : Placed) (after : List Placed)
      → FieldsIn place line low (before ++ field ∷ after) → FieldIn place line field × (low ≤ field.start)
  field_among low [] field after are = (are.0, are.1)
  field_among low (first ∷ before) field after are =
      let later = field_among first.end before field after are.2 in
      let start = are.0.start in
      let end = are.0.end in
      (later.0, (let low_first = are.1 in let high = later.1 in omega arith))

  -- the first and the last field of a name
  name_among : (low : ℕ) (name after : List Placed) (range : ByteRange) → (spans : Spans name range)
      → FieldsIn place line low (name ++ after)
      → FieldIn place line spans.first × FieldIn place line spans.last
      × (spans.first.start ≤ spans.last.start)
  name_among low name after range spans are =
      let begun : FieldsIn place line low (spans.first ∷ (spans.later ++ after)) =
      subst (λ (fields : List Placed). FieldsIn place line low (fields ++ after)) spans.begins are in
      let from : FieldsIn place line spans.first.start (spans.first ∷ (spans.later ++ after)) =
      (begun.0, omega arith, begun.2) in
      let turned : (spans.first ∷ spans.later) ++ after ≡ spans.earlier ++ spans.last ∷ after =
      ap (λ (fields : List Placed). fields ++ after) (sym spans.begins ∙ spans.ends)
      ∙ append_assoc spans.earlier (spans.last ∷ []) after in
      let there = field_among spans.first.start spans.earlier spans.last after
      (subst (FieldsIn place line spans.first.start) turned from) in
      (begun.0, there.0, there.1)

-- the bytes from one place to another
bytes_get : (text : List ℕ) (from long k : ℕ) → k < long
    → get_or (take long (drop from text)) k 0 ≡ get_or text (from + k) 0
bytes_get text from long k below = get_or-take long (drop from text) k 0 below ∙ get_or-drop from text k 0

length_get : (text : List ℕ) (from long : ℕ) → from + long ≤ length text
    → length (take long (drop from text)) ≡ long
length_get text from long inside = grind (arith, nat_tests, length-take-le, length-drop)

-- bytes of a line from the first byte of a field to the last byte of one
module _ (text : List ℕ) (line : LineAt) (is : LineIn text line) (first last : Placed)
    (begins : FieldIn line.place line.bytes first) (ends : FieldIn line.place line.bytes last)
    (order : first.start ≤ last.start) where
  abbrev size : ℕ
  size = last.end - first.start

  abbrev found : List ℕ
  found = take size (drop first.start text)

  size_is : (first.start + size ≡ last.end) × (0 < size) × (last.end ≤ length text)
      × (begins.from + size ≡ ends.from + suc ends.long)
  size_is = grind (arith, nat_tests)

  found_at : (k : ℕ) → k < size → get_or found k 0 ≡ get_or line.bytes (begins.from + k) 0
  found_at k below = grind (arith, nat_tests, size_is, bytes_get, get_or)

  found_long : length found ≡ size
  found_long = grind (arith, nat_tests, size_is, length_get)

  found_name : IsName found
  found_name = grind (arith, nat_tests, found_long, size_is, found_at, get_or)

  found_stands : NameStands text (record { start = first.start; end = last.end })
  found_stands = grind (arith, nat_tests, size_is, found_name)

-- so the name of an entry stands in the text
entry_stands : (text : List ℕ) (line : LineAt) (entry : Entry) → LineIn text line → IsEntry line entry
    → NameStands text entry.name
entry_stands text line entry is spelled =
    let words = spelled.words in
    let has = spelled.has in
    let back = words.w ∷ words.h ∷ words.sx ∷ words.sy ∷ words.gx ∷ words.gy ∷ words.listed ∷ [] in
    let fields : FieldsIn line.place line.bytes line.place (words.bucket ∷ (has.name ++ back)) =
    subst (FieldsIn line.place line.bytes line.place) has.are (all_fields_in line.place line.bytes) in
    let among =
    name_among line.place line.bytes words.bucket.end has.name back words.name has.spans fields.2 in
    let there = found_stands text line is has.spans.first has.spans.last among.0 among.1 among.2 in
    let range : words.name ≡ record { start = has.spans.first.start; end = has.spans.last.end } =
    rw (has.spans.start, has.spans.end) refl in
    subst (NameStands text) (sym (spelled.name ∙ range)) there

lines_stand : (text : List ℕ) (lines : List LineAt) (entries : List Entry)
    → AllByRecursion (LineIn text) lines → SpellInOrder IsBlank IsEntry lines entries
    → (k : ℕ) (entry : Entry) → slice_get entries k ≡ Some entry → NameStands text entry.name
lines_stand text [] entries are none k entry there =
    absurd (let e : slice_get [] k ≡ Some entry = rw none at there in cc)
lines_stand text (line ∷ lines) entries are (inl blank) k entry there =
    lines_stand text lines entries are.1 blank.1 k entry there
lines_stand text (line ∷ lines) entries are (inr spelled) k entry there =
    found_in (λ j is. lines_stand text lines spelled.others are.1 spelled.later j entry is) k
    (rw spelled.are at there)
  where
    found_in : ((j : ℕ) → slice_get spelled.others j ≡ Some entry → NameStands text entry.name) → (k : ℕ)
        → slice_get (spelled.first ∷ spelled.others) k ≡ Some entry → NameStands text entry.name
    found_in later zero is = let same : spelled.first ≡ entry = cc in
        subst (λ (e : Entry). NameStands text e.name) same
        (entry_stands text line spelled.first are.0 spelled.spelled)
    found_in later (suc k) is = later k is

pub all_stand : (text : List ℕ) (entries : List Entry) → Spells text entries
    → (k : ℕ) (entry : Entry) → slice_get entries k ≡ Some entry → NameStands text entry.name
all_stand text entries spells k entry there =
    let lines : AllByRecursion (LineIn text) (spells.first ∷ spells.others) =
    subst (AllByRecursion (LineIn text)) spells.are
    (lines_in text 1 0 (pieces_of text) (feed_parts text 0 text (all_stands text))) in
    lines_stand text spells.others entries lines.1 spells.spelled k entry there
