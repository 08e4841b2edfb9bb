-- The words of a line.
use Rattle.std.proofs.Common.{◌≡◌, ℕ, zero, suc, ◌+◌, ◌-◌, ◌<◌, arith, refl, ap, sym, ◌∙◌, Bool, true, false}
use Rattle.std.proofs.Common.{List, [], ◌∷◌, ◌++◌, length, take, drop, get_or}
use Rattle.std.specs.Prelude.{Option, Some, None, codes, option_map, position}
use Rattle.std.specs.Borrow.{Bor}
use Rattle.std.specs.List.{list_all}
use Rattle.std.proofs.lemmas.List.{length-drop, take_all}
use Rattle.std.proofs.lemmas.List.Folds.{list_all-append}
use Rattle.std.proofs.lemmas.List.Quantifiers.{position-Some}
use Rattle.text_line.proofs.Parts.{position-None}
use Rattle.grid_moves.specs.declared.Cell.{Cell}
use Rattle.cell_lines.specs.Parts.{parts, parts_behind, points_in}
use Rattle.cell_lines.proofs.Parted.{has_first}
use Rattle.potential_check.specs.Forms.{is_space, points_on, words_after}

split_cut : (line : List ℕ) (end : ℕ) → end < length line
    → ((k : ℕ) → k < end → is_space (get_or line k 0) ≡ false) → is_space (get_or line end 0) ≡ true
    → parts 32 line ≡ take end line ∷ parts 32 (drop (suc end) line)
split_cut [] end inside filled at = absurd (omega arith)
split_cut (b ∷ bytes) zero inside filled at = rw at refl
split_cut (b ∷ bytes) (suc end) inside filled at =
    let later = split_cut bytes end (omega arith) (λ k lt. filled (suc k) (omega arith)) at in
    rw (filled 0 (omega arith), later) refl

split_one : (line : List ℕ) → ((k : ℕ) → k < length line → is_space (get_or line k 0) ≡ false)
    → parts 32 line ≡ line ∷ []
split_one [] filled = refl
split_one (b ∷ bytes) filled =
    let later = split_one bytes (λ k lt. filled (suc k) (omega arith)) in
    rw (filled 0 (omega arith), later) refl

-- the first word ends at the first space
pub words_cut : (line : List ℕ) (end : ℕ) → position is_space line ≡ Some end
    → parts 32 line ≡ take end line ∷ parts 32
    (take (length line - (end + 1)) (drop (end + 1) line))
words_cut line end at =
    let found = position-Some is_space line end 0 at in
    let next : suc end ≡ end + 1 = omega arith in
    let rest : take (length line - (end + 1)) (drop (end + 1) line) ≡ drop (end + 1) line =
    take_all (length line - (end + 1)) (drop (end + 1) line) (omega (arith, length-drop (end + 1) line)) in
    split_cut line end found.0 found.2 found.1
    ∙ ap (λ (n : ℕ). take end line ∷ parts 32 (drop n line)) next
    ∙ ap (λ (l : List ℕ). take end line ∷ parts 32 l) (sym rest)

-- or at the line's end
pub words_one : (line : List ℕ) → position is_space line ≡ None → parts 32 line ≡ line ∷ []
words_one line none = split_one line (position-None is_space line none)

-- with these points before
abbrev pub with_points : List Cell → Option (List Cell) → Option (List Cell)
with_points points more = option_map (λ later. points ++ later) more

-- no point yet, where the first word is `points`
pub points_begun : (line : List ℕ) (points : List Cell) (behind : Option (Bor (List ℕ))) (rest : Bor (List ℕ))
    → points ≡ [] → behind ≡ Some rest → parts_behind 32 behind ≡ words_after (codes "points") line
    → points_on line ≡ with_points points (points_in (parts 32 rest.now))
points_begun line points behind rest none is words =
    let first = has_first 32 rest.now in
    let are : words_after (codes "points") line ≡ first.word ∷ first.words =
    sym words ∙ ap (parts_behind 32) is ∙ first.are in
    rw (are, first.are, none) (whole (points_in (first.word ∷ first.words)))
  where
    whole : (o : Option (List Cell)) → o ≡ option_map (λ later. [] ++ later) o
    whole None = refl
    whole (Some points) = refl

-- all of a list and one more
pub all_pushed : {X : Type 0} (p : X → Bool) (xs : List X) (x : X) → list_all p xs ≡ true → p x ≡ true
    → list_all p (xs ++ x ∷ []) ≡ true
all_pushed p xs x all one = rw (list_all-append p xs (x ∷ []), all, one) refl
