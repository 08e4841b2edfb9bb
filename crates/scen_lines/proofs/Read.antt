-- The lines that were written are read as the entries.
use Rattle.std.proofs.Common.{◌≡◌, ◌≢◌, ℕ, suc, ◌+◌, ◌/◌, ◌^◌, ◌<◌, ◌≤◌, Bool, true, false, not, eqb}
use Rattle.std.proofs.Common.{List, [], ◌∷◌, ◌++◌, length, get_or, inr, refl, ap, sym}
use Rattle.std.proofs.Common.{◌∙◌, append_assoc, arith, subst}
use Rattle.std.specs.Prelude.{codes, decimal, map}
use Rattle.std.specs.Char.{is_ascii_digit}
use Rattle.std.specs.List.{All, AllByRecursion, list_all}
use Rattle.std.proofs.lemmas.Bool.{and_parts, and_from}
use Rattle.std.proofs.lemmas.Bool.Decides.{nat_tests}
use Rattle.std.proofs.lemmas.List.{length-append}
use Rattle.std.proofs.lemmas.List.Elements.{All-nil, All-cons, All-append}
use Rattle.std.proofs.lemmas.List.Folds.{list_all-append}
use Rattle.text_line.specs.Fields.{is_blank_byte}
use Rattle.text_line.specs.Lines.{pieces_of, without_cr}
use Rattle.text_line.specs.Places.{LineAt, fields_from, lines_from}
use Rattle.text_line.specs.Reading.{SpellInOrder}
use Rattle.text_line.proofs.Written.{all_weaker, are_digits, nine_digits, pieces_then, is_plain, plain_both}
use Rattle.text_line.proofs.Written.{plain_digits, without_cr_plain}
use Rattle.scen_text.specs.Spelling.{IsBlank, IsEntry, Spells}
use Rattle.scen_lines.specs.declared.line.Listed.{Listed}
use Rattle.scen_lines.specs.Line.{last_eight, length_text}
use Rattle.scen_lines.specs.Laws.{Named, IsReadable, AreReadable, line_of, lines_of, scenario_of, entry_at}
use Rattle.scen_lines.specs.Laws.{entries_from, entries_of}
use Rattle.scen_lines.proofs.Digits.{number_read, length_read, eight_digits}
use Rattle.scen_lines.proofs.Fields.{IsWord, word_at, name_spans, words_text, entry_fields}

-- a byte that ends no line
abbrev ends_none : ℕ → Bool
ends_none byte = not (eqb byte 10)

-- digits end no line, and part no fields
digits_filled : (digits : List ℕ) → list_all is_ascii_digit digits ≡ true
    → All (λ byte. is_blank_byte byte ≡ false) digits
digits_filled [] all = All-nil (λ byte. is_blank_byte byte ≡ false)
digits_filled (d ∷ digits) all =
    let parts = and_parts (is_ascii_digit d) (list_all is_ascii_digit digits) all in
    All-cons (λ byte. is_blank_byte byte ≡ false) d digits (filled d parts.0) (digits_filled digits parts.1)
  where
    filled : (byte : ℕ) → is_ascii_digit byte ≡ true → is_blank_byte byte ≡ false
    filled byte digit = grind (arith, nat_tests)

none_ended : (byte : ℕ) → is_plain byte ≡ true → ends_none byte ≡ true
none_ended byte plain = grind (arith, nat_tests)

no_feed : (byte : ℕ) → ends_none byte ≡ true → eqb byte 10 ≡ false
no_feed byte none = grind (arith, nat_tests)

-- a word that ends no line, nor loses its end
record IsPlain (word : List ℕ) : Type 0 where
  is : IsWord word
  plain : list_all is_plain word ≡ true

number_plain : (n : ℕ) → n < 10 ^ 9 → IsPlain (decimal n)
number_plain n low =
    let are = nine_digits n low in
    record {
      is = record { some = are.some; filled = digits_filled (decimal n) are.all };
      plain = plain_digits (decimal n) are.all;
    }

parted_plain : (whole kept : List ℕ) → 1 ≤ length whole → list_all is_ascii_digit whole ≡ true
    → list_all is_ascii_digit kept ≡ true → IsPlain (whole ++ 46 ∷ kept)
parted_plain whole kept some front back =
    record {
      is = record {
        some = omega (arith, length-append whole (46 ∷ kept));
        filled = All-append (λ byte. is_blank_byte byte ≡ false) whole (46 ∷ kept) (digits_filled whole front)
            (All-cons (λ byte. is_blank_byte byte ≡ false) 46 kept refl (digits_filled kept back));
      };
      plain = plain_both whole (46 ∷ kept) (plain_digits whole front) (plain_digits kept back);
    }

length_is : (units : ℕ) → decimal (units / 100000000) ++ 46 ∷ last_eight units ≡ length_text units
length_is units = sym (append_assoc (decimal (units / 100000000)) (codes ".") (last_eight units))

length_plain : (units : ℕ) → units < 10 ^ 16 → IsPlain (length_text units)
length_plain units small =
    let are = are_digits 8 (units / 100000000) (omega arith) (omega arith) (omega arith) in
    subst IsPlain (length_is units)
    (parted_plain (decimal (units / 100000000)) (last_eight units) are.some are.all (eight_digits units))

-- the line of an entry without its line feed, by its fields
abbrev pub fields_text : List ℕ → List ℕ → List ℕ → List (List ℕ) → List ℕ
fields_text bucket name word words = bucket ++ 9 ∷ (name ++ 9 ∷ words_text word words)

abbrev pub later_words : Listed → List (List ℕ)
later_words listed = decimal listed.problem.h ∷ decimal listed.problem.sx ∷ decimal listed.problem.sy ∷
    decimal listed.problem.gx ∷ decimal listed.problem.gy ∷ length_text listed.units ∷ []

abbrev pub body_of : Named → List ℕ
body_of entry = fields_text (decimal entry.listed.bucket) entry.name (decimal entry.listed.problem.w)
    (later_words entry.listed)

-- the texts, one behind the other, with t between them and n at the end
module _ (t n b name w h sx sy gx gy l : List ℕ) where
  abbrev in_order : List ℕ
  in_order = b ++ (t ++ (name ++ (t ++ (w ++ (t ++ (h ++ (t ++ (sx ++ (t ++ (sy ++ (t ++ (gx ++ (t ++ (gy ++
      (t ++ (l ++ n))))))))))))))))

  written_order : b ++ t ++ name ++ ((t ++ w) ++ (t ++ h) ++ (t ++ sx) ++ (t ++ sy) ++ (t ++ gx) ++ (t ++ gy))
      ++ t ++ l ++ n ≡ in_order
  written_order = simp append_assoc

  abbrev fields_of_all : List ℕ
  fields_of_all = b ++ (t ++ (name ++ (t ++ (w ++ (t ++ (h ++ (t ++ (sx ++ (t ++ (sy ++ (t ++ (gx ++ (t ++
      (gy ++ (t ++ l)))))))))))))))

  fields_order : fields_of_all ++ n ≡ in_order
  fields_order = simp append_assoc

  grouped : b ++ t ++ name ++ ((t ++ w) ++ (t ++ h) ++ (t ++ sx) ++ (t ++ sy) ++ (t ++ gx) ++ (t ++ gy))
      ++ t ++ l ++ n ≡ fields_of_all ++ n
  grouped = written_order ∙ sym fields_order

pub line_is : (entry : Named) → line_of entry ≡ body_of entry ++ 10 ∷ []
line_is entry = grouped (codes "\t") (codes "\n") (decimal entry.listed.bucket) entry.name
    (decimal entry.listed.problem.w)
    (decimal entry.listed.problem.h) (decimal entry.listed.problem.sx) (decimal entry.listed.problem.sy)
    (decimal entry.listed.problem.gx) (decimal entry.listed.problem.gy) (length_text entry.listed.units)

-- a carriage return is dropped behind a front as it is without
behind_front : (xs : List ℕ) (y : ℕ) (ys : List ℕ) → without_cr (xs ++ y ∷ ys) ≡ xs ++ without_cr (y ∷ ys)
behind_front [] y ys = refl
behind_front (x ∷ []) y ys = refl
behind_front (x ∷ z ∷ xs) y ys = ap (λ (t : List ℕ). x ∷ t) (behind_front (z ∷ xs) y ys)

-- the words of an entry
record HasPlainWords (listed : Listed) : Type 0 where
  bucket : IsPlain (decimal listed.bucket)
  first : IsPlain (decimal listed.problem.w)
  later : AllByRecursion IsPlain (later_words listed)

numbers_plain : (ns : List ℕ) (last : List ℕ) → AllByRecursion (λ n. n < 10 ^ 9) ns → IsPlain last
    → AllByRecursion IsPlain (map (λ n. decimal n) ns ++ last ∷ [])
numbers_plain [] last all plain = (plain, tt)
numbers_plain (n ∷ ns) last all plain = (number_plain n all.0, numbers_plain ns last all.1 plain)

plain_words : (entry : Named) → IsReadable entry → HasPlainWords entry.listed
plain_words entry is =
    let p = entry.listed.problem in
    let r = is.problem in
    record {
      bucket = number_plain entry.listed.bucket is.bucket;
      first = number_plain p.w r.w;
      later = numbers_plain (p.h ∷ p.sx ∷ p.sy ∷ p.gx ∷ p.gy ∷ []) (length_text entry.listed.units)
          (r.h, (r.sx, (r.sy, (r.gx, (r.gy, tt))))) (length_plain entry.listed.units is.units);
    }

all_words : (words : List (List ℕ)) → AllByRecursion IsPlain words → AllByRecursion IsWord words
all_words [] all = tt
all_words (word ∷ words) all = (all.0.is, all_words words all.1)

words_plain : (word : List ℕ) (words : List (List ℕ)) → IsPlain word → AllByRecursion IsPlain words
    → list_all is_plain (words_text word words) ≡ true
words_plain word [] is all = is.plain
words_plain word (next ∷ words) is all =
    plain_both word (9 ∷ words_text next words) is.plain (words_plain next words all.0 all.1)

each_plain : (bytes : List ℕ) → ((k : ℕ) → k < length bytes → get_or bytes k 0 ≢ 10)
    → list_all ends_none bytes ≡ true
each_plain [] each = refl
each_plain (b ∷ bytes) each =
    and_from (ends_none b) (list_all ends_none bytes) (other b (each 0 (omega arith)))
    (each_plain bytes (λ k below. each (suc k) (omega arith)))
  where
    other : (b : ℕ) → b ≢ 10 → ends_none b ≡ true
    other b differs = grind (arith, nat_tests)

module _ (entry : Named) (is : IsReadable entry) where
  abbrev tail : List ℕ
  tail = words_text (decimal entry.listed.problem.w) (later_words entry.listed)

  tail_plain : list_all is_plain (9 ∷ tail) ≡ true
  tail_plain =
      let words = plain_words entry is in
      words_plain (decimal entry.listed.problem.w) (later_words entry.listed) words.first words.later

  body_plain : list_all ends_none (body_of entry) ≡ true
  body_plain =
      grind (
        arith,
        nat_tests,
        list_all-append,
        and_from,
        each_plain entry.name is.name.one_line,
        all_weaker is_plain ends_none none_ended (decimal entry.listed.bucket) (plain_words entry
            is).bucket.plain,
        all_weaker is_plain ends_none none_ended (9 ∷ tail) tail_plain,
      )

  kept_body : without_cr (body_of entry) ≡ body_of entry
  kept_body =
      behind_front (decimal entry.listed.bucket) 9 (entry.name ++ 9 ∷ tail)
      ∙ ap (λ (t : List ℕ). decimal entry.listed.bucket ++ t) (behind_front (9 ∷ entry.name) 9 tail
      ∙ ap (λ (t : List ℕ). 9 ∷ entry.name ++ t) (without_cr_plain (9 ∷ tail) tail_plain))

-- the line spells the entry
line_spells : (number place : ℕ) (entry : Named) → IsReadable entry
    → IsEntry (record { number = number; place = place; bytes = body_of entry }) (entry_at number place entry)
line_spells number place entry is =
    let p = entry.listed.problem in
    let plain = plain_words entry is in
    let name_at = place + length (decimal entry.listed.bucket) + 1 in
    let w_at = name_at + length entry.name + 1 in
    let h_at = w_at + length (decimal p.w) + 1 in
    let sx_at = h_at + length (decimal p.h) + 1 in
    let sy_at = sx_at + length (decimal p.sx) + 1 in
    let gx_at = sy_at + length (decimal p.sy) + 1 in
    let gy_at = gx_at + length (decimal p.gx) + 1 in
    let listed_at = gy_at + length (decimal p.gy) + 1 in
    record {
      words = record {
        bucket = word_at place (decimal entry.listed.bucket);
        name = record { start = name_at; end = name_at + length entry.name };
        w = word_at w_at (decimal p.w);
        h = word_at h_at (decimal p.h);
        sx = word_at sx_at (decimal p.sx);
        sy = word_at sy_at (decimal p.sy);
        gx = word_at gx_at (decimal p.gx);
        gy = word_at gy_at (decimal p.gy);
        listed = word_at listed_at (length_text entry.listed.units);
      };
      has = record {
        name = fields_from name_at entry.name;
        are = entry_fields place (decimal entry.listed.bucket) entry.name (decimal p.w)
            (later_words entry.listed) plain.bucket.is plain.first.is
            (all_words (later_words entry.listed) plain.later);
        spans = name_spans name_at entry.name is.name;
      };
      number = refl;
      bucket = number_read entry.listed.bucket is.bucket;
      name = refl;
      w = number_read p.w is.problem.w;
      h = number_read p.h is.problem.h;
      sx = number_read p.sx is.problem.sx;
      sy = number_read p.sy is.problem.sy;
      gx = number_read p.gx is.problem.gx;
      gy = number_read p.gy is.problem.gy;
      listed = length_read entry.listed.units is.units;
    }

-- the lines of a text that begins with that of an entry
lines_first : (number place : ℕ) (entry : Named) (rest : List ℕ) → IsReadable entry
    → lines_from number place (pieces_of (line_of entry ++ rest))
    ≡ record { number = number; place = place; bytes = body_of entry }
    ∷ lines_from (number + 1) (place + length (line_of entry)) (pieces_of rest)
lines_first number place entry rest is =
    let body = body_of entry in
    let here : LineAt = record { number = number; place = place; bytes = body } in
    let text : line_of entry ++ rest ≡ body ++ 10 ∷ rest =
    ap (λ (t : List ℕ). t ++ rest) (line_is entry) ∙ append_assoc body (10 ∷ []) rest in
    let long : length (line_of entry) ≡ length body + 1 =
    ap length (line_is entry) ∙ length-append body (10 ∷ []) in
    let next : place + length body + 1 ≡ place + length (line_of entry) = omega arith in
    ap (λ (t : List ℕ). lines_from number place (pieces_of t)) text
    ∙ ap (λ (pieces : List (List ℕ)). lines_from number place pieces)
    (pieces_then ends_none no_feed body rest (body_plain entry is))
    ∙ ap (λ (bytes : List ℕ). let line : LineAt = record { number = number; place = place; bytes = bytes } in
    line ∷ lines_from (number + 1) (place + length body + 1) (pieces_of rest)) (kept_body entry is)
    ∙ ap (λ n. here ∷ lines_from (number + 1) n (pieces_of rest)) next

lines_spell : (number place : ℕ) (entries : List Named) → AreReadable entries
    → SpellInOrder IsBlank IsEntry (lines_from number place (pieces_of (lines_of entries)))
    (entries_from number place entries)
lines_spell number place [] are = refl
lines_spell number place (entry ∷ entries) are =
    let later = lines_spell (number + 1) (place + length (line_of entry)) entries (λ k. are (suc k)) in
    subst (λ (lines : List LineAt). SpellInOrder IsBlank IsEntry lines
    (entries_from number place (entry ∷ entries)))
    (sym (lines_first number place entry (lines_of entries) (are 0 entry refl)))
    (inr (record {
      first = entry_at number place entry;
      others = entries_from (number + 1) (place + length (line_of entry)) entries;
      are = refl;
      spelled = line_spells number place entry (are 0 entry refl);
      later = later;
    }))

pub scenario_spells : (entries : List Named) → AreReadable entries
    → Spells (scenario_of entries) (entries_of entries)
scenario_spells entries h = grind (arith, nat_tests, lines_spell)
