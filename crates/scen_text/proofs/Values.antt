-- The value of digits that follow others.
use Rattle.std.proofs.Common.{◌≡◌, ℕ, ◌^◌, ◌<◌, ◌≤◌, true, List, ◌++◌, length, sym, ◌∙◌, arith}
use Rattle.std.specs.List.{list_all}
use Rattle.std.specs.Char.{is_ascii_digit}
use Rattle.std.specs.Str.Parse.{digits_value_after}
use Rattle.std.proofs.lemmas.Bool.{and_from}
use Rattle.std.proofs.lemmas.List.{length-append}
use Rattle.std.proofs.lemmas.List.Folds.{list_all-append}
use Rattle.text_line.specs.Numbers.{value_of}
use Rattle.text_line.proofs.Digits.{after_append, value_of-lt}

-- at most 8 digits and ten behind them stay below 10^18
pub joined-lt : (whole kept : List ℕ) → list_all is_ascii_digit whole ≡ true → length whole ≤ 8
    → list_all is_ascii_digit kept ≡ true → length kept ≤ 10 → value_of (whole ++ kept) < 10 ^ 18
joined-lt whole kept front short back few =
    let all : list_all is_ascii_digit (whole ++ kept) ≡ true = list_all-append is_ascii_digit whole kept
    ∙ and_from (list_all is_ascii_digit whole) (list_all is_ascii_digit kept) front back in
    let long : length (whole ++ kept) ≤ 18 = omega (arith, length-append whole kept) in
    value_of-lt 18 (whole ++ kept) all long

pub both-lt : (whole kept : List ℕ) → list_all is_ascii_digit whole ≡ true → length whole ≤ 8
    → list_all is_ascii_digit kept ≡ true → length kept ≤ 10
    → digits_value_after 10 (value_of whole) kept < 10 ^ 18
both-lt whole kept front short back few =
    rw (sym (after_append 0 whole kept)) (joined-lt whole kept front short back few)
