-- What numbers and lengths that were written are read as.
use Rattle.std.proofs.Common.{◌≡◌, ℕ, suc, ◌+◌, ◌/◌, ◌^◌, ◌<◌, true, false, List, [], ◌∷◌, ◌++◌}
use Rattle.std.proofs.Common.{length, drop, refl, ap, ◌∙◌, append_assoc, arith}
use Rattle.std.specs.Prelude.{codes, decimal, Some, position}
use Rattle.std.specs.Char.{is_ascii_digit}
use Rattle.std.specs.List.{list_all, position_or_len}
use Rattle.std.specs.Str.Parse.{digits_value_after}
use Rattle.std.proofs.lemmas.Bool.{and_parts, le-leb, lt-ltb}
use Rattle.std.proofs.lemmas.Bool.Decides.{nat_tests}
use Rattle.std.proofs.lemmas.List.{length-append}
use Rattle.std.proofs.Math.Seq.{take-append_seam}
use Rattle.text_line.specs.Numbers.{is_number, number_of}
use Rattle.text_line.proofs.Digits.{after_append}
use Rattle.text_line.proofs.Written.{AreDigits, nine_digits, are_digits}
use Rattle.scen_text.specs.Lengths.{length_of, is_point}
use Rattle.root2_cost.specs.Length.{eight_places}
use Rattle.scen_lines.specs.Line.{last_eight, length_text}

number_digits : (most n : ℕ) (digits : List ℕ) → AreDigits most n digits → is_number most digits ≡ true
number_digits most n digits are = grind (arith, le-leb)

pub number_read : (n : ℕ) → n < 10 ^ 9 → number_of (decimal n) ≡ Some n
unfolding number_of
number_read n low =
    let are = nine_digits n low in
    rw (number_digits 9 n (decimal n) are, are.value) refl

-- the last digits, one after the other
Follow : ℕ → List ℕ → Type 0
Follow v [] = Unit {0}
Follow v (m ∷ ms) = (v ≡ m / 10) × Follow m ms

last_of : ℕ → List ℕ → ℕ
last_of v [] = v
last_of v (m ∷ ms) = last_of m ms

eight_value : (n : ℕ) → digits_value_after 10 (n / 100000000) (last_eight n) ≡ n
unfolding Follow last_of
eight_value n = grind (arith, nat_tests)

pub eight_digits : (n : ℕ) → list_all is_ascii_digit (last_eight n) ≡ true
eight_digits n = grind (arith, nat_tests)

eight_number : (n : ℕ) → is_number 20 (last_eight n) ≡ true
eight_number n = eight_digits n

-- the first point stands behind the digits before it
point_behind : (digits rest : List ℕ) → list_all is_ascii_digit digits ≡ true
    → position_or_len is_point (digits ++ 46 ∷ rest) ≡ length digits
point_behind [] rest all = refl
point_behind (d ∷ digits) rest all =
    let parts = and_parts (is_ascii_digit d) (list_all is_ascii_digit digits) all in
    let none : is_point d ≡ false = no_point d parts.0 in
    rw none (let later = point_behind digits rest parts.1 in omega arith)
  where
    no_point : (byte : ℕ) → is_ascii_digit byte ≡ true → is_point byte ≡ false
    no_point byte digit = grind (arith, nat_tests)

point_at : (digits rest : List ℕ) → list_all is_ascii_digit digits ≡ true
    → position is_point (digits ++ 46 ∷ rest) ≡ Some (length digits)
point_at digits rest all = grind (arith, nat_tests, length-append, point_behind, lt-ltb)

behind_point : (digits rest : List ℕ) → drop (length digits + 1) (digits ++ 46 ∷ rest) ≡ rest
behind_point digits rest =
    let next : length digits + 1 ≡ suc (length digits) = omega arith in
    ap (λ n. drop n (digits ++ 46 ∷ rest)) next ∙ behind digits
  where
    behind : (digits : List ℕ) → drop (suc (length digits)) (digits ++ 46 ∷ rest) ≡ rest
    behind [] = refl
    behind (d ∷ digits) = behind digits

parted_read : (units : ℕ) (whole : List ℕ) → AreDigits 8 (units / 100000000) whole
    → length_of (whole ++ 46 ∷ last_eight units) ≡ Some (eight_places units)
unfolding length_of
parted_read units whole are =
    grind (
      arith,
      nat_tests,
      after_append,
      eight_value,
      point_at,
      take-append_seam,
      behind_point,
      number_digits,
      eight_number,
    )

pub length_read : (units : ℕ) → units < 10 ^ 16 → length_of (length_text units) ≡ Some (eight_places units)
length_read units small =
    ap length_of (append_assoc (decimal (units / 100000000)) (codes ".") (last_eight units))
    ∙ parted_read units (decimal (units / 100000000))
    (are_digits 8 (units / 100000000) (omega arith) (omega arith) (omega arith))
