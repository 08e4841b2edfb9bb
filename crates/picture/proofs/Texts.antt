-- Texts written one after the other.
use Rattle.std.proofs.Common.{arith}
use Rattle.std.proofs.lemmas.Bool.Decides.{nat_tests}
use Rattle.std.proofs.Common.{◌≡◌, ap, sym, ◌∙◌, refl, List, [], ◌∷◌, ◌++◌, append_assoc, ℕ, Result, Ok, Err}
use Rattle.std.specs.Prelude.{OnOk}
use Rattle.map_text.specs.Writing.{text_of}

-- two texts more
pub then : (old mid new x y : List ℕ) → mid ≡ old ++ x → new ≡ mid ++ y → new ≡ old ++ (x ++ y)
then old mid new x y first second = grind (arith, nat_tests, append_assoc)

-- the same where the second one may have failed
pub then_ok : {T E : Type 0} (answer : Result T E) (old mid new x y : List ℕ) → mid ≡ old ++ x
    → OnOk answer (new ≡ mid ++ y) → OnOk answer (new ≡ old ++ (x ++ y))
then_ok (Ok done) old mid new x y first second = then old mid new x y first second
then_ok (Err fault) old mid new x y first second = tt

-- lines and lines behind them
text_of-append : (lines more : List (List ℕ)) → text_of (lines ++ more) ≡ text_of lines ++ text_of more
text_of-append [] more = refl
text_of-append (line ∷ lines) more =
    ap (λ (t : List ℕ). line ++ 10 ∷ t) (text_of-append lines more)
    ∙ sym (append_assoc line (10 ∷ text_of lines) (text_of more))

pub lines_then : (lines more : List (List ℕ)) (old mid new : List ℕ) → mid ≡ old ++ text_of lines
    → new ≡ mid ++ text_of more → new ≡ old ++ text_of (lines ++ more)
lines_then lines more old mid new first second =
    then old mid new (text_of lines) (text_of more) first second
    ∙ ap (λ (t : List ℕ). old ++ t) (sym (text_of-append lines more))

pub lines_then_ok : {T E : Type 0} (answer : Result T E) (lines more : List (List ℕ)) (old mid new : List ℕ)
    → mid ≡ old ++ text_of lines → OnOk answer (new ≡ mid ++ text_of more)
    → OnOk answer (new ≡ old ++ text_of (lines ++ more))
lines_then_ok answer lines more old mid new h i = grind (arith, nat_tests, lines_then)

-- the end of a line was written behind its beginning
pub line_done : {T E : Type 0} (answer : Result T E) (old mid new line end : List ℕ) → mid ≡ old ++ line
    → OnOk answer (new ≡ mid ++ (end ++ 10 ∷ [])) → OnOk answer (new ≡ old ++ text_of ((line ++ end) ∷ []))
line_done answer old mid new line end h i = grind (arith, nat_tests, append_assoc)
