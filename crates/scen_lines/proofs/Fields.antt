-- The fields of words that stand behind each other, parted by tabs.
use Rattle.std.proofs.lemmas.Bool.Decides.{nat_tests}
use Rattle.std.proofs.Common.{◌≡◌, ℕ, suc, ◌+◌, ◌-◌, ◌≤◌, Bool, cond, false, List, [], ◌∷◌, ◌++◌, length}
use Rattle.std.proofs.Common.{get_or, take, inl, inr, refl, ap, sym, ◌∙◌, arith}
use Rattle.std.specs.Prelude.{filter}
use Rattle.std.specs.List.{slice_split, onto_first, All, AllByRecursion}
use Rattle.std.proofs.lemmas.Bool.{cases_Bool}
use Rattle.std.proofs.lemmas.List.{take_all, take_more}
use Rattle.std.proofs.lemmas.List.Elements.{filter-append}
use Rattle.std.proofs.lemmas.List.Splits.{slice_split_none}
use Rattle.text_line.specs.Fields.{is_blank_byte, is_something}
use Rattle.text_line.specs.Places.{Placed, placed_from, fields_from, room_of}
use Rattle.scen_text.specs.Spelling.{Spans}
use Rattle.scen_text.specs.Names.{IsName}

-- the parts of a line, of which there is a first one
some_part : (xs : List ℕ)
    → (first : List ℕ) × (others : List (List ℕ)) × (slice_split is_blank_byte xs ≡ first ∷ others)
some_part [] = ([], [], refl)
some_part (x ∷ xs) =
    let later = some_part xs in
    elim (cases_Bool (is_blank_byte x)) [
      | inl blank ↦ ([], slice_split is_blank_byte xs, rw blank refl)
      | inr filled ↦ (x ∷ later.0, later.1, rw (filled, later.2) refl)
    ]

onto_joined : (x : ℕ) (first : List ℕ) (others parts : List (List ℕ)) (some : List (List ℕ))
    → some ≡ first ∷ others → onto_first x (some ++ parts) ≡ onto_first x some ++ parts
onto_joined x first others parts some is = rw is refl

-- the parts of two texts around a tab
parts_joined : (xs ys : List ℕ)
    → slice_split is_blank_byte (xs ++ 9 ∷ ys) ≡ slice_split is_blank_byte xs ++ slice_split is_blank_byte ys
parts_joined [] ys = refl
parts_joined (x ∷ xs) ys =
    let later = some_part xs in
    elim (cases_Bool (is_blank_byte x)) [
      | inl blank ↦ rw blank (ap (λ (parts : List (List ℕ)). [] ∷ parts) (parts_joined xs ys))
      | inr filled ↦ rw filled (ap (onto_first x) (parts_joined xs ys)
          ∙ onto_joined x later.0 later.1 (slice_split is_blank_byte ys)
          (slice_split is_blank_byte xs) later.2)
    ]

placed_joined : (place : ℕ) (before after : List (List ℕ))
    → placed_from place (before ++ after)
    ≡ placed_from place before ++ placed_from (place + room_of before) after
placed_joined place [] after = ap (λ n. placed_from n after) (omega arith)
placed_joined place (part ∷ before) after =
    let later = placed_joined (place + length part + 1) before after in
    let here : Placed = record { start = place; end = place + length part; bytes = part } in
    let next : place + length part + 1 + room_of before ≡ place + room_of (part ∷ before) = omega arith in
    ap (λ (fields : List Placed). here ∷ fields)
    (later ∙ ap (λ n. placed_from (place + length part + 1) before ++ placed_from n after) next)

room_onto : (x : ℕ) (first : List ℕ) (others some : List (List ℕ)) → some ≡ first ∷ others
    → room_of (onto_first x some) ≡ suc (room_of some)
room_onto x first others some is = rw is (omega arith)

-- the parts take the room of the text and one byte more
room_parts : (xs : List ℕ) → room_of (slice_split is_blank_byte xs) ≡ length xs + 1
room_parts [] = refl
room_parts (x ∷ xs) =
    let later = some_part xs in
    elim (cases_Bool (is_blank_byte x)) [
      | inl blank ↦ rw blank (omega (arith, room_parts xs))
      | inr filled ↦ rw filled (room_onto x later.0 later.1 (slice_split is_blank_byte xs) later.2
          ∙ omega (arith, room_parts xs))
    ]

abbrev is_field : Placed → Bool
is_field field = is_something field.bytes

-- the fields of two texts around a tab
pub fields_joined : (place : ℕ) (xs ys : List ℕ)
    → fields_from place (xs ++ 9 ∷ ys) ≡ fields_from place xs ++ fields_from (place + length xs + 1) ys
fields_joined place xs ys = grind (arith, nat_tests, room_parts, parts_joined, placed_joined, filter-append)

-- a word at a place
abbrev pub word_at : ℕ → List ℕ → Placed
word_at place word = record { start = place; end = place + length word; bytes = word }

pub record IsWord (word : List ℕ) : Type 0 where
  pub some : 1 ≤ length word
  pub filled : All (λ byte. is_blank_byte byte ≡ false) word

pub field_alone : (place : ℕ) (word : List ℕ) → IsWord word → fields_from place word ≡ word_at place word ∷ []
field_alone place word h = grind (arith, nat_tests, slice_split_none)

pub field_then : (place : ℕ) (word rest : List ℕ) → IsWord word
    → fields_from place (word ++ 9 ∷ rest) ≡ word_at place word ∷ fields_from (place + length word + 1) rest
field_then place word rest is = grind (arith, nat_tests, fields_joined, field_alone)

-- the fields of a name begin with its first byte
name_begins : (place b : ℕ) (bytes : List ℕ) → is_blank_byte b ≡ false
    → (first : Placed) × (later : List Placed) × (fields_from place (b ∷ bytes) ≡ first ∷ later)
    × (place ≡ first.start)
name_begins place b bytes filled =
    let later = some_part bytes in
    let word : List ℕ = b ∷ later.0 in (
      word_at place word,
      filter is_field (placed_from (place + length word + 1) later.1),
      ap (λ (all : List (List ℕ)). filter is_field (placed_from place all))
          (let split : slice_split is_blank_byte (b ∷ bytes) ≡ word ∷ later.1 =
          rw (filled, later.2) refl in split),
      refl,
    )

room_joined : (before after : List (List ℕ)) → room_of (before ++ after) ≡ room_of before + room_of after
room_joined [] after = omega arith
room_joined (part ∷ before) after = omega (arith, room_joined before after)

-- its last part ends with its last byte
last_part : (xs : List ℕ) (c : ℕ) → is_blank_byte c ≡ false
    → (earlier : List (List ℕ)) × (part : List ℕ)
    × (slice_split is_blank_byte (xs ++ c ∷ []) ≡ earlier ++ (part ++ c ∷ []) ∷ [])
last_part [] c filled = ([], [], rw filled refl)
last_part (x ∷ xs) c filled =
    let later = last_part xs c filled in
    elim (cases_Bool (is_blank_byte x)) [
      | inl blank ↦ ([] ∷ later.0, later.1, rw (blank, later.2) refl)
      | inr before ↦ onto_last x later.0 later.1 (slice_split is_blank_byte (xs ++ c ∷ [])) later.2 before
    ]
  where
    onto_last : (x : ℕ) (earlier : List (List ℕ)) (part : List ℕ) (parts : List (List ℕ))
        → parts ≡ earlier ++ (part ++ c ∷ []) ∷ [] → is_blank_byte x ≡ false
        → (earlier : List (List ℕ)) × (part : List ℕ)
        × (cond (is_blank_byte x) ([] ∷ parts) (onto_first x parts) ≡ earlier ++ (part ++ c ∷ []) ∷ [])
    onto_last x [] part parts is before = ([], x ∷ part, rw (before, is) refl)
    onto_last x (first ∷ earlier) part parts is before =
        ((x ∷ first) ∷ earlier, part, rw (before, is) refl)

name_ends : (place : ℕ) (xs : List ℕ) (c : ℕ) → is_blank_byte c ≡ false
    → (earlier : List Placed) × (last : Placed) × (fields_from place (xs ++ c ∷ []) ≡ earlier ++ last ∷ [])
    × (place + length (xs ++ c ∷ []) ≡ last.end)
name_ends place xs c filled =
    let parts = last_part xs c filled in
    let word : List ℕ = parts.1 ++ c ∷ [] in
    let start = place + room_of parts.0 in (
      filter is_field (placed_from place parts.0),
      word_at start word,
      ap (λ (all : List (List ℕ)). filter is_field (placed_from place all)) parts.2
          ∙ ap (filter is_field) (placed_joined place parts.0 (word ∷ []))
          ∙ filter-append is_field (placed_from place parts.0) (placed_from start (word ∷ []))
          ∙ ap (λ (fields : List Placed). filter is_field (placed_from place parts.0) ++ fields)
          (one_field start parts.1),
      (let long = room_parts (xs ++ c ∷ []) in
          let same = ap room_of parts.2 in
          let sum = room_joined parts.0 (word ∷ []) in
          omega arith),
    )
  where
    one_field : (start : ℕ) (part : List ℕ)
        → filter is_field (placed_from start ((part ++ c ∷ []) ∷ [])) ≡ word_at start (part ++ c ∷ []) ∷ []
    one_field start [] = refl
    one_field start (b ∷ part) = refl

-- so they span it
pub name_spans : (place : ℕ) (name : List ℕ) → IsName name
    → Spans (fields_from place name) (record { start = place; end = place + length name })
name_spans place [] is = absurd (let some = is.some in omega arith)
name_spans place (b ∷ bytes) is =
    let name : List ℕ = b ∷ bytes in
    let last = length name - 1 in
    let c = get_or name last 0 in
    let cut : name ≡ take last name ++ c ∷ [] =
    sym (take_all (last + 1) name (omega arith)) ∙ take_more name last 0 (omega arith) in
    let front = name_begins place b bytes is.first in
    let back = name_ends place (take last name) c is.last in
    record {
      first = front.0;
      later = front.1;
      begins = front.2;
      start = front.3;
      earlier = back.0;
      last = back.1;
      ends = ap (fields_from place) cut ∙ back.2;
      end = ap (λ (word : List ℕ). place + length word) cut ∙ back.3;
    }

-- words that a tab parts
abbrev pub words_text : List ℕ → List (List ℕ) → List ℕ
words_text word [] = word
words_text word (next ∷ words) = word ++ 9 ∷ words_text next words

abbrev pub words_at : ℕ → List ℕ → List (List ℕ) → List Placed
words_at place word [] = word_at place word ∷ []
words_at place word (next ∷ words) = word_at place word ∷ words_at (place + length word + 1) next words

pub words_fields : (place : ℕ) (word : List ℕ) (words : List (List ℕ)) → IsWord word
    → AllByRecursion IsWord words → fields_from place (words_text word words) ≡ words_at place word words
words_fields place word [] is are = field_alone place word is
words_fields place word (next ∷ words) is are =
    field_then place word (words_text next words) is
    ∙ ap (λ (fields : List Placed). word_at place word ∷ fields)
    (words_fields (place + length word + 1) next words are.0 are.1)

-- and those of an entry
pub entry_fields : (place : ℕ) (bucket name word : List ℕ) (words : List (List ℕ)) → IsWord bucket
    → IsWord word → AllByRecursion IsWord words
    → fields_from place (bucket ++ 9 ∷ (name ++ 9 ∷ words_text word words))
    ≡ word_at place bucket ∷ (fields_from (place + length bucket + 1) name
    ++ words_at (place + length bucket + 1 + length name + 1) word words)
entry_fields place bucket name word words group is are =
    grind (arith, nat_tests, field_then, fields_joined, words_fields)
