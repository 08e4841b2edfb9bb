-- What the fields of a line tell.
use Rattle.std.proofs.lemmas.Bool.Decides.{nat_tests}
use Rattle.std.proofs.Common.{◌≡◌, ℕ, suc, ◌<◌, arith, refl, ap, sym, ◌∙◌, subst, Bool, true, false, List, []}
use Rattle.std.proofs.Common.{◌∷◌, length}
use Rattle.std.specs.Prelude.{Option, Some, None, if◌then◌else◌, map, codes}
use Rattle.std.specs.Option.{option_map, option_and_then}
use Rattle.std.proofs.lemmas.Bool.{cases_Bool}
use Rattle.std.proofs.lemmas.Slice.Eq.{bytes_eq-Decides}
use Rattle.grid_moves.specs.declared.Cell.{Cell}
use Rattle.text_line.specs.Fields.{is_nothing}
use Rattle.walk_judge.specs.declared.claims.Claimed.{Claimed}
use Rattle.walk_judge.specs.declared.claims.Claimed.TheVariants as claimed
use Rattle.cell_lines.specs.Parts.{point_of, points_in}
use Rattle.walk_judge.specs.Claims.{is_none, walk_of, claimed_in, AreFieldsOf}

-- each point, where it is one
abbrev pub some_points : List Cell → List (Option Cell)
some_points points = map (λ p. Some p) points

-- points are read of words that each spell one
words_of_points : (words : List (List ℕ)) (points : List Cell) → points_in words ≡ Some points
    → map point_of words ≡ some_points points
words_of_points [] points read = let none : points ≡ [] = cc in ap some_points (sym none)
words_of_points (word ∷ words) points read =
    by_word (words_of_points words) (point_of word) refl (points_in words) refl read
  where
    by_word : ((more : List Cell) → points_in words ≡ Some more → map point_of words ≡ some_points more)
        → (p : Option Cell) → point_of word ≡ p → (later : Option (List Cell)) → points_in words ≡ later
        → option_and_then (λ p. option_map (λ points. p ∷ points) later) p ≡ Some points
        → map point_of (word ∷ words) ≡ some_points points
    by_word rest None is later are h = absurd (cc)
    by_word rest (Some p) is None are h = absurd (cc)
    by_word rest (Some p) is (Some later) are h =
        let same : p ∷ later ≡ points = cc in
        ap (λ (o : Option Cell). o ∷ map point_of words) is
        ∙ ap (λ (os : List (Option Cell)). Some p ∷ os) (rest later are) ∙ ap some_points same

-- and the other way round
points_of_words : (words : List (List ℕ)) (points : List Cell) → map point_of words ≡ some_points points
    → points_in words ≡ Some points
points_of_words [] [] are = refl
points_of_words [] (p ∷ points) are = absurd (cc)
points_of_words (word ∷ words) [] are = absurd (cc)
points_of_words (word ∷ words) (p ∷ points) are =
    let first : point_of word ≡ Some p = cc in
    let later : map point_of words ≡ some_points points = cc in
    rw (first, points_of_words words points later) refl

-- as many points as words
pub as_many : (words : List (List ℕ)) (points : List Cell) → map point_of words ≡ some_points points
    → length words ≡ length points
as_many [] [] are = refl
as_many [] (p ∷ points) are = absurd (cc)
as_many (word ∷ words) [] are = absurd (cc)
as_many (word ∷ words) (p ∷ points) are =
    let later : map point_of words ≡ some_points points = cc in
    ap (λ n. suc n) (as_many words points later)

-- the one field `none`
none_is : (fields : List (List ℕ)) → is_none fields ≡ true → fields ≡ codes "none" ∷ []
none_is fields h1 = grind (arith, nat_tests, bytes_eq-Decides)

-- it is no point
none_no_points : (points : List Cell) → map point_of (codes "none" ∷ []) ≡ some_points points → ⊥
unfolding point_of
none_no_points [] are = cc
none_no_points (p ∷ points) are = cc

-- fields that are read as this tell it
pub claimed_fields : (word : List ℕ) (words : List (List ℕ)) (what : Claimed)
    → claimed_in (word ∷ words) ≡ Some what
    → AreFieldsOf (word ∷ words) what
claimed_fields word words what read = by_test (is_none (word ∷ words)) refl read
  where
    by_points : (o : Option (List Cell)) → points_in (word ∷ words) ≡ o → option_map walk_of o ≡ Some what
        → AreFieldsOf (word ∷ words) what
    by_points None are h = absurd (cc)
    by_points (Some points) are h =
        let same : claimed.Walk points ≡ what = cc in
        let each = words_of_points (word ∷ words) points are in
        let some : 0 < length points = omega (arith, as_many (word ∷ words) points each) in
        subst (λ (w : Claimed). AreFieldsOf (word ∷ words) w) same (some, each)

    by_test : (b : Bool) → is_none (word ∷ words) ≡ b
        → (if b then Some claimed.None else option_map walk_of (points_in (word ∷ words))) ≡ Some what
        → AreFieldsOf (word ∷ words) what
    by_test true none h =
        let same : claimed.None ≡ what = cc in
        subst (λ (w : Claimed). AreFieldsOf (word ∷ words) w) same (none_is (word ∷ words) none)
    by_test false other h = by_points (points_in (word ∷ words)) refl h

-- and the other way round
pub fields_claimed : (fields : List (List ℕ)) (what : Claimed) → AreFieldsOf fields what
    → claimed_in fields ≡ Some what
fields_claimed fields what h1 = grind (arith, nat_tests, cases_Bool, none_is, none_no_points, points_of_words)

-- a line that tells something has a field
pub fields_there : (fields : List (List ℕ)) (what : Claimed) → AreFieldsOf fields what
    → is_nothing fields ≡ false
fields_there fields claimed.None are = ap (λ (f : List (List ℕ)). is_nothing f) are
fields_there [] (claimed.Walk points) are = absurd (omega (arith, as_many [] points are.1, are.0))
fields_there (word ∷ words) (claimed.Walk points) are = refl
