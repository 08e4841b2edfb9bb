-- Numbers that were written in decimals, and lines of bytes that end no line.
use Rattle.std.proofs.Common.{◌≡◌, ℕ, ◌^◌, ◌<◌, ◌≤◌, Bool, true, false, ◌&&◌, not, eqb, List, [], ◌∷◌, ◌++◌}
use Rattle.std.proofs.Common.{length, refl, ap, arith}
use Rattle.std.specs.Prelude.{decimal}
use Rattle.std.specs.Char.{is_ascii_digit}
use Rattle.std.specs.List.{list_all}
use Rattle.std.specs.Str.Parse.{AllDigits}
use Rattle.std.proofs.lemmas.Bool.{and_from, and_parts}
use Rattle.std.proofs.lemmas.Bool.Decides.{nat_tests}
use Rattle.std.proofs.lemmas.Fmt.{decimal_is_IsNumeral, length-decimal-le}
use Rattle.std.proofs.lemmas.List.Folds.{list_all-append}
use Rattle.text_line.specs.Lines.{pieces_of, without_cr, lines_of}
use Rattle.text_line.specs.Numbers.{value_of}

-- the digits of a number: at most so many
pub record AreDigits (most n : ℕ) (digits : List ℕ) : Type 0 where
  pub some : 1 ≤ length digits
  pub few : length digits ≤ most
  pub all : list_all is_ascii_digit digits ≡ true
  pub value : value_of digits ≡ n

pub are_digits : (most n : ℕ) → 0 < most → n < 10 ^ most → n < 10 ^ 9 → AreDigits most n (decimal n)
are_digits most n some small fits =
    let numeral = decimal_is_IsNumeral n (omega arith) in
    record {
      some = numeral.0.0;
      few = length-decimal-le most n some small (omega arith);
      all = all_digits (decimal n) numeral.0.1;
      value = numeral.1;
    }
  where
    all_digits : (digits : List ℕ) → AllDigits 10 digits → list_all is_ascii_digit digits ≡ true
    all_digits [] all = refl
    all_digits (d ∷ digits) all = grind (arith, nat_tests, all_digits digits all.1)

-- a number below 10^9, and a coordinate
pub nine_digits : (n : ℕ) → n < 10 ^ 9 → AreDigits 9 n (decimal n)
nine_digits n low = are_digits 9 n (omega arith) low low

pub four_digits : (n : ℕ) → n < 10000 → AreDigits 4 n (decimal n)
four_digits n low = are_digits 4 n (omega arith) (omega arith) (omega arith)

-- bytes with a property have a weaker one
pub all_weaker : (p q : ℕ → Bool) → ((byte : ℕ) → p byte ≡ true → q byte ≡ true) → (bytes : List ℕ)
    → list_all p bytes ≡ true → list_all q bytes ≡ true
all_weaker p q weaker [] all = refl
all_weaker p q weaker (b ∷ bytes) all =
    let parts = and_parts (p b) (list_all p bytes) all in
    and_from (q b) (list_all q bytes) (weaker b parts.0) (all_weaker p q weaker bytes parts.1)

-- bytes that end no line, and a line feed
pub pieces_then : (p : ℕ → Bool) → ((byte : ℕ) → p byte ≡ true → eqb byte 10 ≡ false) → (line rest : List ℕ)
    → list_all p line ≡ true → pieces_of (line ++ 10 ∷ rest) ≡ line ∷ pieces_of rest
pieces_then p ends [] rest all = refl
pieces_then p ends (b ∷ line) rest all =
    let parts = and_parts (p b) (list_all p line) all in
    rw (ends b parts.0, pieces_then p ends line rest parts.1) refl

-- a byte that ends no line, nor is dropped at its end
abbrev pub is_plain : ℕ → Bool
is_plain byte = not (eqb byte 10) && not (eqb byte 13)

pub no_feed : (byte : ℕ) → is_plain byte ≡ true → eqb byte 10 ≡ false
no_feed byte plain = grind (arith, nat_tests)

pub without_cr_plain : (line : List ℕ) → list_all is_plain line ≡ true → without_cr line ≡ line
without_cr_plain [] plain = refl
without_cr_plain (b ∷ []) plain = grind (arith, and_parts)
without_cr_plain (b ∷ c ∷ line) plain =
    let parts = and_parts (is_plain b) (list_all is_plain (c ∷ line)) plain in
    ap (λ (rest : List ℕ). b ∷ rest) (without_cr_plain (c ∷ line) parts.1)

-- a line of such bytes and what follows it
pub lines_then : (line rest : List ℕ) → list_all is_plain line ≡ true
    → lines_of (line ++ 10 ∷ rest) ≡ line ∷ lines_of rest
lines_then line rest plain =
    rw (pieces_then is_plain no_feed line rest plain, without_cr_plain line plain) refl

pub plain_both : (xs ys : List ℕ) → list_all is_plain xs ≡ true → list_all is_plain ys ≡ true
    → list_all is_plain (xs ++ ys) ≡ true
plain_both xs ys p q = rw (list_all-append is_plain xs ys, p, q) refl

-- digits end no line
pub plain_digits : (digits : List ℕ) → list_all is_ascii_digit digits ≡ true
    → list_all is_plain digits ≡ true
plain_digits = all_weaker is_ascii_digit is_plain plain_digit
  where
    plain_digit : (byte : ℕ) → is_ascii_digit byte ≡ true → is_plain byte ≡ true
    plain_digit byte digit = grind (arith, nat_tests)
