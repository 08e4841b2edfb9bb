-- What a text is read as, what it spells and how it breaks the grammar.
use Rattle.std.proofs.lemmas.Bool.Decides.{nat_tests}
use Rattle.std.proofs.Common.{◌≡◌, ℕ, zero, suc, ◌<◌, ◌≤◌, true, false, cond, ltb, List, [], ◌∷◌, ◌++◌}
use Rattle.std.proofs.Common.{length, Option, Some, None, Ok, refl, ap, subst, ◌∙◌, ◌⊎◌, inl, inr, arith}
use Rattle.std.specs.Prelude.{codes, unwrap_or}
use Rattle.std.specs.Option.{option_or, is_some}
use Rattle.std.proofs.lemmas.Bool.{cases_Bool, and_parts, ltb-false}
use Rattle.std.proofs.lemmas.Slice.Eq.{bytes_eq-Decides}
use Rattle.text_line.specs.Fields.{fields_of}
use Rattle.text_line.specs.Reading as lines
use Rattle.text_line.specs.Reading.{reading, read_lines, fault_on, SpellInOrder}
use Rattle.text_line.proofs.Reading.{Reads, Judges, lines_read}
use Rattle.text_line.specs.Numbers.{number_of}
use Rattle.text_line.specs.Places.{Placed, LineAt, fields_from, lines_at}
use Rattle.scen_text.specs.declared.fault.ScenFault.{ScenFault}
use Rattle.scen_text.specs.declared.fault.ScenFault.TheVariants.{Version, Number}
use Rattle.scen_text.specs.declared.entry.Entry.{Entry}
use Rattle.scen_text.specs.Words.{Words, words_of}
use Rattle.scen_text.specs.Spelling.{HasWords, IsEntry, IsBlank, SpellsLines, Spells}
use Rattle.scen_text.specs.Faults.{names_version, number_fault, words_fault, fields_read, line_read, fault_at}
use Rattle.scen_text.specs.Faults.{entry_in, first_of, all_read, scen_of, BreaksFirst}
use Rattle.scen_text.proofs.Split.{words_there}
use Rattle.scen_text.proofs.Lines.{line_words}

-- where the first of two is none, none is there
or_parts : (a b : Option ScenFault) → option_or a b ≡ None → (a ≡ None) × (b ≡ None)
or_parts a b h = grind (arith, nat_tests)

all_none : (a b c d e f g h : Option ScenFault) → first_of (a ∷ b ∷ c ∷ d ∷ e ∷ f ∷ g ∷ h ∷ []) ≡ None
    → (a ≡ None) × (b ≡ None) × (c ≡ None) × (d ≡ None) × (e ≡ None) × (f ≡ None) × (g ≡ None) × (h ≡ None)
all_none a b c d e f g h none = grind (arith, or_parts)

-- a word that breaks nothing spells something
spells_some : (A : Type 0) (word : Option A) (fault : ScenFault) (other : A)
    → cond (is_some word) None (Some fault) ≡ None → word ≡ Some (unwrap_or word other)
spells_some A word fault other h = grind (arith, nat_tests)

number_right : (line : ℕ) (word : List ℕ) → number_fault line word ≡ None
    → number_of word ≡ Some (unwrap_or (number_of word) 0)
number_right line word none = spells_some ℕ (number_of word) (Number line) 0 none

-- words that break nothing spell an entry
words_spell : (line : LineAt) (words : Words) → HasWords (fields_from line.place line.bytes) words
    → words_fault line.number words ≡ None → IsEntry line (entry_in line.number words)
words_spell line words has none = grind (arith, all_none, number_right, spells_some)

-- what a line after the first is read as, by its fields
fields_blank : (line : ℕ) (fields : List Placed) → fields_read line fields ≡ Ok None → fields ≡ []
fields_blank line fields h = grind (arith, nat_tests)

fields_spell : (line : LineAt) (fields : List Placed) (entry : Entry)
    → fields_from line.place line.bytes ≡ fields → fields_read line.number fields ≡ Ok (Some entry)
    → IsEntry line entry
fields_spell line [] entry are read = absurd cc
fields_spell line (bucket ∷ left) entry are read =
    elim (cases_Bool (ltb (length (bucket ∷ left)) 9)) [
      | inl few ↦ absurd (cc (rw few at read))
      | inr enough ↦
          let words = words_of (bucket ∷ left) in
          let long : 8 ≤ length left = omega (arith, ltb-false (length (bucket ∷ left)) 9 enough) in
          let has : HasWords (fields_from line.place line.bytes) words =
          rw are (words_there bucket left long) in
          let parts = read_clean (words_fault line.number words) (rw enough at read) in
          subst (IsEntry line) parts.1 (words_spell line words has parts.0)
    ]
  where
    read_clean : {found : Entry} (fault : Option ScenFault) → reading fault (Some found) ≡ Ok (Some entry)
        → (fault ≡ None) × (found ≡ entry)
    read_clean None read = (refl, cc)
    read_clean (Some fault) read = absurd cc

-- a line that spells an entry is read as it
entry_read : (line : LineAt) (entry : Entry) → IsEntry line entry → line_read line ≡ Ok (Some entry)
entry_read line entry is =
    let words = is.words in
    let left =
    is.has.name ++ words.w ∷ words.h ∷ words.sx ∷ words.sy ∷ words.gx ∷ words.gy ∷ words.listed ∷ [] in
    let there : HasWords (words.bucket ∷ left) words =
    record { name = is.has.name; are = refl; spans = is.has.spans } in
    line_words line words.bucket left words is.has.are there
    ∙ rw (is.bucket, is.w, is.h, is.sx, is.sy, is.gx, is.gy, is.listed, ← is.number, ← is.name) refl

lines_judged : Judges line_read IsBlank IsEntry
lines_judged = record {
  blank = λ line read. fields_blank line.number (fields_from line.place line.bytes) read;
  nothing = λ line blank. ap (fields_read line.number) blank;
  spelled = λ line entry read. fields_spell line (fields_from line.place line.bytes) entry refl read;
  value = entry_read;
}

-- fields that name the version
version_is : (fields : List (List ℕ)) → names_version fields ≡ true
    → (fields ≡ codes "version" ∷ codes "1" ∷ []) ⊎ (fields ≡ codes "version" ∷ codes "1.0" ∷ [])
version_is fields h = grind (arith, nat_tests, and_parts, bytes_eq-Decides, cases_Bool)

-- all lines are read as what they spell, or as their first fault
no_line : {fault : ScenFault} (place : ℕ) → fault_at [] place ≡ Some fault → Version 1 ≡ fault
no_line place h = grind (arith, nat_tests)

module _ (first : LineAt) (others : List LineAt) where
  -- the first line names the version
  module _ (right : names_version (fields_of first.bytes) ≡ true) where
    later : Reads (SpellInOrder IsBlank IsEntry others) (lines.BreaksFirst (fault_on line_read others))
        (read_lines line_read others)
    later = lines_read line_read lines_judged others

    clean : (place : ℕ) → ((k : ℕ) → k < place → fault_on line_read others k ≡ None) → (k : ℕ) → k < suc place
        → fault_at (first ∷ others) k ≡ None
    clean place h k i = grind (arith, nat_tests)

    behind_version : (place : ℕ) (fault : ScenFault) → fault_at (first ∷ others) place ≡ Some fault
        → ((k : ℕ) → k < place → fault_at (first ∷ others) k ≡ None)
        → lines.BreaksFirst (fault_on line_read others) fault
    behind_version zero fault breaks before = let no = rw right at breaks in absurd cc
    behind_version (suc place) fault breaks before =
        record { place = place; breaks = breaks; before = λ k below. before (suc k) (omega arith) }

    read_right : Reads (SpellsLines (first ∷ others)) (BreaksFirst (first ∷ others))
        (all_read (first ∷ others))
    read_right = record {
      found = λ entries read. record {
        first = first;
        others = others;
        are = refl;
        version = version_is (fields_of first.bytes) right;
        spelled = later.found entries (rw right at read);
      };
      only = λ entries spells. rw right (later.only entries (subst
          (λ (lines : List LineAt). SpellInOrder IsBlank IsEntry lines entries) (others_are spells.are)
          spells.spelled));
      first = λ fault read.
          let is = later.first fault (rw right at read) in
          record { place = suc is.place; breaks = is.breaks; before = clean is.place is.before };
      broken = λ fault first_broken. rw right
          (later.broken fault (behind_version first_broken.place fault first_broken.breaks
          first_broken.before));
    }
      where
        others_are : {line : LineAt} {lines : List LineAt} → first ∷ others ≡ line ∷ lines → lines ≡ others
        others_are are = cc

  -- it doesn't
  module _ (wrong : names_version (fields_of first.bytes) ≡ false) where
    read_wrong : Reads (SpellsLines (first ∷ others)) (BreaksFirst (first ∷ others))
        (all_read (first ∷ others))
    read_wrong = grind (arith, nat_tests)

pub scen_read : (text : List ℕ) → Reads (Spells text) (BreaksFirst (lines_at text)) (scen_of text)
unfolding scen_of
scen_read text = read_all (lines_at text)
  where
    read_all : (all : List LineAt) → Reads (SpellsLines all) (BreaksFirst all) (all_read all)
    read_all [] = record {
      found = λ entries read. absurd cc;
      only = λ entries spells. let no = spells.are in absurd cc;
      first = λ fault read. record {
        place = 0;
        breaks = ap (λ (f : ScenFault). let here : Option ScenFault = Some f in here) (cc);
        before = λ k below. absurd (omega arith);
      };
      broken = λ fault first. rw (no_line first.place first.breaks) refl;
    }
    read_all (first ∷ others) = elim (cases_Bool (names_version (fields_of first.bytes))) [
      | inl right ↦ read_right first others right
      | inr wrong ↦ read_wrong first others wrong
    ]
