-- Words that are written with a byte between them are read back.
use Rattle.std.proofs.Common.{◌≡◌, ℕ, ◌<◌, ◌==◌, ◌&&◌, Bool, true, false, not, List, [], ◌∷◌, ◌++◌, arith}
use Rattle.std.proofs.Common.{refl, ap, sym, ◌∙◌, append_assoc}
use Rattle.std.specs.Prelude.{Some, codes, decimal}
use Rattle.std.specs.Char.{is_ascii_digit}
use Rattle.std.specs.List.{list_all}
use Rattle.std.proofs.lemmas.Bool.{and_parts, le-leb}
use Rattle.std.proofs.lemmas.Bool.Decides.{nat_tests}
use Rattle.std.proofs.lemmas.List.{append-nil}
use Rattle.std.proofs.lemmas.List.Folds.{list_all-append}
use Rattle.text_line.proofs.Written.{AreDigits, all_weaker, four_digits, is_plain, plain_both}
use Rattle.grid_moves.specs.declared.Cell.{Cell}
use Rattle.cell_lines.specs.Cells.{cell_text, texts_of}
use Rattle.cell_lines.specs.Parts.{first_number, first_two, parts, point_of}
use Rattle.cell_lines.proofs.Parted.{bytes_before}

-- a first word, and others behind such a byte each
abbrev pub joined : ℕ → List ℕ → List (List ℕ) → List ℕ
joined byte first words = first ++ texts_of (λ word. byte ∷ word) words

-- words without that byte are the words of what is written so
pub joined_parts : (byte : ℕ) (p : ℕ → Bool) → ((b : ℕ) → p b ≡ true → (b == byte) ≡ false)
    → (first : List ℕ) (words : List (List ℕ)) → list_all p first ≡ true
    → list_all (list_all p) words ≡ true → (byte == byte) ≡ true
    → parts byte (joined byte first words) ≡ first ∷ words
joined_parts byte p other first [] one all same =
    bytes_before byte p other first [] [] [] one refl
    ∙ ap (λ (l : List ℕ). l ∷ []) (append-nil first)
joined_parts byte p other first (word ∷ words) one all same =
    let each = and_parts (list_all p word) (list_all (list_all p) words) all in
    let later = joined_parts byte p other word words each.0 each.1 same in
    bytes_before byte p other first (byte ∷ joined byte word words) [] (word ∷ words) one (rw (same, later)
    refl)
    ∙ ap (λ (l : List ℕ). l ∷ word ∷ words) (append-nil first)

-- a byte of a word that a space ends and that ends no line
abbrev pub is_filled : ℕ → Bool
is_filled byte = is_plain byte && not (byte == 32)

-- a line of such words, by its first word and the others
abbrev pub is_spaced : List ℕ × List (List ℕ) → Bool
is_spaced line = list_all is_filled line.0 && list_all (list_all is_filled) line.1

abbrev pub line_of : List ℕ × List (List ℕ) → List ℕ
line_of line = joined 32 line.0 line.1

-- has these words, and ends nowhere before its end
pub line_parts : (line : List ℕ × List (List ℕ)) → is_spaced line ≡ true
    → parts 32 (line_of line) ≡ line.0 ∷ line.1
line_parts line all =
    let each = and_parts (list_all is_filled line.0) (list_all (list_all is_filled) line.1) all in
    joined_parts 32 is_filled no_space line.0 line.1 each.0 each.1 refl
  where
    no_space : (b : ℕ) → is_filled b ≡ true → (b == 32) ≡ false
    no_space b filled = grind (arith, nat_tests)

plain_word : (word : List ℕ) → list_all is_filled word ≡ true → list_all is_plain word ≡ true
plain_word = all_weaker is_filled is_plain (λ b filled. (and_parts (is_plain b) (not (b == 32)) filled).0)

pub line_plain : (line : List ℕ × List (List ℕ)) → is_spaced line ≡ true
    → list_all is_plain (line_of line) ≡ true
line_plain line all =
    let each = and_parts (list_all is_filled line.0) (list_all (list_all is_filled) line.1) all in
    plain_both line.0 (texts_of (λ word. 32 ∷ word) line.1) (plain_word line.0 each.0)
    (plain_words line.1 each.1)
  where
    plain_words : (words : List (List ℕ)) → list_all (list_all is_filled) words ≡ true
        → list_all is_plain (texts_of (λ word. 32 ∷ word) words) ≡ true
    plain_words [] all = refl
    plain_words (word ∷ words) all =
        let each = and_parts (list_all is_filled word) (list_all (list_all is_filled) words) all in
        plain_both (32 ∷ word) (texts_of (λ word. 32 ∷ word) words) (plain_word word each.0)
        (plain_words words each.1)

-- written numbers are such words, and are read back
pub filled_digits : (digits : List ℕ) → list_all is_ascii_digit digits ≡ true
    → list_all is_filled digits ≡ true
filled_digits = all_weaker is_ascii_digit is_filled filled
  where
    filled : (byte : ℕ) → is_ascii_digit byte ≡ true → is_filled byte ≡ true
    filled byte digit = grind (arith, nat_tests)

number_back : (most n : ℕ) (words : List (List ℕ)) → AreDigits most n (decimal n)
    → first_number most (decimal n ∷ words) ≡ Some (n, words)
number_back most n words are =
    rw (le-leb 1 _ are.some, le-leb _ most are.few, are.all, are.value) refl

pub two_back : (most m n : ℕ) (words : List (List ℕ)) → AreDigits most m (decimal m)
    → AreDigits most n (decimal n) → first_two most (decimal m ∷ decimal n ∷ words) ≡ Some ((m, n), words)
two_back most m n words one other =
    rw (number_back most m (decimal n ∷ words) one, number_back most n words other) refl

-- and so is a cell
pub point_filled : (c : Cell) → c.x < 10000 → c.y < 10000 → list_all is_filled (cell_text c) ≡ true
point_filled c x y =
    filled_both (decimal c.x ++ codes ",") (decimal c.y)
    (filled_both (decimal c.x) (codes ",") (filled_digits (decimal c.x) (four_digits c.x x).all) refl)
    (filled_digits (decimal c.y) (four_digits c.y y).all)
  where
    filled_both : (xs ys : List ℕ) → list_all is_filled xs ≡ true → list_all is_filled ys ≡ true
        → list_all is_filled (xs ++ ys) ≡ true
    filled_both xs ys p q = rw (list_all-append is_filled xs ys, p, q) refl

pub point_back : (c : Cell) → c.x < 10000 → c.y < 10000 → point_of (cell_text c) ≡ Some c
unfolding point_of
point_back c x y =
    let column = four_digits c.x x in
    let row = four_digits c.y y in
    let are : parts 44 (cell_text c) ≡ decimal c.x ∷ decimal c.y ∷ [] =
    ap (λ (l : List ℕ). parts 44 l) (append_assoc (decimal c.x) (codes ",") (decimal c.y))
    ∙ ap (λ (l : List ℕ). parts 44 (decimal c.x ++ 44 ∷ l)) (sym (append-nil (decimal c.y)))
    ∙ joined_parts 44 is_ascii_digit no_comma (decimal c.x) (decimal c.y ∷ []) column.all
    (rw row.all refl) refl in
    rw (are, two_back 4 c.x c.y [] column row) refl
  where
    no_comma : (b : ℕ) → is_ascii_digit b ≡ true → (b == 44) ≡ false
    no_comma b digit = grind (arith, nat_tests)
