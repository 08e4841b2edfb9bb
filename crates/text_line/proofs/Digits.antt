-- The value of decimal digits.
use Rattle.std.proofs.Common.{◌≡◌, ℕ, ◌+◌, ◌-◌, ◌*◌, ◌^◌, ◌<◌, ◌≤◌, true, List, [], ◌∷◌, ◌++◌, length, get_or}
use Rattle.std.proofs.Common.{take, drop, refl, sym, ap, ◌∙◌, arith}
use Rattle.std.specs.List.{list_all}
use Rattle.std.specs.Char.{is_ascii_digit, digit_value}
use Rattle.std.specs.Str.Parse.{AllDigits, digits_value_after}
use Rattle.std.proofs.Math.Nat.{pow-le-pow_right}
use Rattle.std.proofs.lemmas.Bool.{and_parts, leb-true}
use Rattle.std.proofs.lemmas.List.{take_more, take-append-drop}
use Rattle.std.proofs.lemmas.List.Folds.{list_all-append}
use Rattle.std.proofs.lemmas.Bool.Decides.{nat_tests}
use Rattle.std.proofs.lemmas.Int.Digits.{digits_value-lt}
use Rattle.std.proofs.lemmas.List.Sums.{AllPass-from_list_all}
use Rattle.text_line.specs.Numbers.{is_number, value_of}

pub digit_value_is : (c : ℕ) → is_ascii_digit c ≡ true → digit_value c ≡ c - 48
digit_value_is c digit = grind (arith, nat_tests)

all_digits : (ds : List ℕ) → list_all is_ascii_digit ds ≡ true → AllDigits 10 ds
all_digits [] digits = tt
all_digits (d ∷ ds) digits =
    let parts = and_parts (is_ascii_digit d) (list_all is_ascii_digit ds) digits in
    (grind (arith, nat_tests), all_digits ds parts.1)

-- the value of at most n digits has at most n
pub value_of-lt : (n : ℕ) (ds : List ℕ) → list_all is_ascii_digit ds ≡ true → length ds ≤ n
    → value_of ds < 10 ^ n
value_of-lt n ds digits short = grind (arith, digits_value-lt, all_digits, pow-le-pow_right)

-- digits after digits
pub after_append : (n : ℕ) (xs ys : List ℕ)
    → digits_value_after 10 n (xs ++ ys) ≡ digits_value_after 10 (digits_value_after 10 n xs) ys
after_append n [] ys = refl
after_append n (x ∷ xs) ys = after_append (n * 10 + digit_value x) xs ys

after-ge : (n : ℕ) (ds : List ℕ) → n ≤ digits_value_after 10 n ds
after-ge n [] = omega arith
after-ge n (d ∷ ds) = omega (arith, after-ge (n * 10 + digit_value d) ds)

-- one digit more
pub after_more : (n : ℕ) (ds : List ℕ) (i : ℕ) → list_all is_ascii_digit ds ≡ true → i < length ds
    → digits_value_after 10 n (take (i + 1) ds) ≡ digits_value_after 10 n (take i ds) * 10 +
    (get_or ds i 0 - 48)
after_more n ds i digits inside =
    let digit = AllPass-from_list_all is_ascii_digit ds digits i 0 inside in
    ap (digits_value_after 10 n) (take_more ds i 0 inside)
    ∙ after_append n (take i ds) (get_or ds i 0 ∷ [])
    ∙ ap (λ (d : ℕ). digits_value_after 10 n (take i ds) * 10 + d) (digit_value_is (get_or ds i 0) digit)

-- a part of the digits has no greater value
pub after_part : (n : ℕ) (ds : List ℕ) (i : ℕ)
    → digits_value_after 10 n (take i ds) ≤ digits_value_after 10 n ds
after_part n ds i =
    let whole =
    ap (digits_value_after 10 n) (sym (take-append-drop i ds)) ∙ after_append n (take i ds) (drop i ds) in
    rw whole (after-ge (digits_value_after 10 n (take i ds)) (drop i ds))

-- a part of digits is digits
pub digits_part : (ds : List ℕ) (i : ℕ) → list_all is_ascii_digit ds ≡ true
    → list_all is_ascii_digit (take i ds) ≡ true
digits_part ds i digits =
    let parts = sym (list_all-append is_ascii_digit (take i ds) (drop i ds))
    ∙ ap (list_all is_ascii_digit) (take-append-drop i ds) ∙ digits in
    (and_parts (list_all is_ascii_digit (take i ds)) (list_all is_ascii_digit (drop i ds)) parts).0

-- the digits of a word
pub short_number : (most : ℕ) (word : List ℕ) → is_number most word ≡ true
    → (length word ≤ most) × (list_all is_ascii_digit word ≡ true)
short_number most word is = grind (arith, and_parts, leb-true)

-- the same from no number on
pub value_of_more : (ds : List ℕ) (i : ℕ) → list_all is_ascii_digit ds ≡ true → i < length ds
    → value_of (take (i + 1) ds) ≡ value_of (take i ds) * 10 + (get_or ds i 0 - 48)
value_of_more ds i digits inside = after_more 0 ds i digits inside

pub value_of_part : (ds : List ℕ) (i : ℕ) → value_of (take i ds) ≤ value_of ds
value_of_part ds i = after_part 0 ds i
